pub mod WholeToken
