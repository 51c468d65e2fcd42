-- A reader of a sheet: made at a place, the place that it is at, and what it reads next. Definitions.
use Rattle.std.specs.Prelude.{ℕ, ◌-◌, List, ◌≡◌, Option, Some, None, MatchOption}
use Rattle.std.specs.Borrow.{Bor}
use Rattle.sheet.specs.declared.Cursor.{Cursor}
use Rattle.sheet.specs.Words.{words}
use Rattle.sheet.specs.Inner.{step_at}
use Rattle.sheet_reader.specs.declared.Reader.{Reader}

abbrev pub reader_standing : Bor (List ℕ) → Cursor → Reader
reader_standing s c = record { sheet = s; place = c.place }

abbrev pub place_held : Reader → Cursor
place_held r = record { place = r.place }

-- "A sheet is read word by word from its front": the next word, and the reader that has passed it; at the end none, and the reader stays
abbrev pub reads : Reader → Option ℕ → Reader → Type 0
reads r word r' = MatchOption (step_at r.sheet.now (place_held r)) ((word ≡ None) × (r' ≡ r)) (λ step. (word ≡ Some step.0) × (r' ≡ reader_standing r.sheet step.1))

-- how many words are left
abbrev pub left : Reader → ℕ
left r = words r.sheet.now - r.place
