-- The rows of a question by its sections, and what is decided in each, with its mark (document 01, 'The sheet'; document 02, requests 6 and 7).
-- Definitions only.
use Rattle.std.specs.Prelude.{List, ℕ, ◌+◌}
use Rattle.grammar.specs.Policies.{PolicyOf}
use Rattle.grammar.specs.declared.Version.{Version}
use Rattle.bags.specs.Reading.{byte}
use Rattle.bags.specs.declared.sections.Sections.{Sections}
use Rattle.questions.specs.Questions.{rows_of}
use Rattle.views.specs.Meaning.{View, look}
use Rattle.views.specs.Rows.{bag_of_row}
use Rattle.placing.specs.Said.{Word}
use Rattle.meaning.specs.Targets.{Request}
use Rattle.meaning.specs.Decisions.{under, decision_of, decided_mark}
use Rattle.meaning.specs.declared.Decision.{Decision}
use Rattle.pages.specs.Rows.{counts_of, choices_at}

-- how many columns: their count byte stands at the sections' end
abbrev pub columns_in : List ℕ → Sections → ℕ
columns_in s p = byte s p.end

-- where the first column starts
abbrev pub first_in : Sections → ℕ
first_in p = p.end + 1

-- how many candidates each column has
abbrev pub counts_in : List ℕ → Sections → List ℕ
counts_in s p = counts_of (columns_in s p) s (first_in p)

-- how many rows
abbrev pub rows_in : List ℕ → Sections → ℕ
rows_in s p = rows_of (columns_in s p) s (first_in p)

-- the attributes where the columns have these choices: a row's bag is the base with each column's attribute set to its choice or removed
abbrev pub view_by : List ℕ → Sections → List ℕ → View
view_by s p choices = look (bag_of_row s p (columns_in s p) (first_in p) choices)

-- what is decided there under a version, and the mark
unfoldable pub decision_by : Version → List ℕ → Sections → Request → List (PolicyOf Word) → List ℕ → Decision
decision_by version s p q ps choices = decision_of (under version (view_by s p choices)) q ps

unfoldable pub mark_there : Version → List ℕ → Sections → Request → List (PolicyOf Word) → List ℕ → ℕ
mark_there version s p q ps choices = decided_mark (under version (view_by s p choices)) q ps

-- the decision of each row, and its mark
abbrev pub decision_at : Version → List ℕ → Sections → Request → List (PolicyOf Word) → ℕ → Decision
decision_at version s p q ps row = decision_by version s p q ps (choices_at (counts_in s p) row)

abbrev pub row_mark : Version → List ℕ → Sections → Request → List (PolicyOf Word) → ℕ → ℕ
row_mark version s p q ps row = mark_there version s p q ps (choices_at (counts_in s p) row)
