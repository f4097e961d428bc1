-- One word for proofs that compute: who unfolds it sees through rows, pages and their bytes. Assumes nothing.
use Rattle.pages.specs.Rows.{counts_of, choices_at}
use Rattle.pages.specs.Listing.{listed, yes_of, page_rows, next_row, rows_bytes}

unfoldable pub pages_opened : Unit {0}
unfolding counts_of choices_at listed yes_of page_rows next_row rows_bytes
pages_opened = tt
