pub mod SlotLaws
