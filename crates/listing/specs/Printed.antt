-- What `marks` prints of a sheet, as bytes, and what a report of it leaves in what is lent; and what `converter` writes. Definitions.
use Rattle.std.specs.Prelude.{ℕ, false, ◌≡◌, List, ◌++◌, length, drop, if◌then◌else◌}
use Rattle.sheet.specs.Sections.{node_count, span_count}
use Rattle.answer.specs.Answer.{number_of, Answer, accepted, ended, paused, route, no_route, written, refused, is_refused}
use Rattle.judgement.specs.Judgement.{judgement_by, judgement}
use Rattle.procedure.specs.Procedure.{enough_rounds}
use Rattle.conversion.specs.Converted.{converted}
use Rattle.calls.specs.Tables.{table_length}
use Rattle.calls.specs.Runs.{run_table}
use Rattle.listing.specs.Listing.{listing_of, refused_line}

-- the line of a refusal; of any other answer the text given
abbrev pub text_of : Answer → List ℕ → List ℕ
text_of (refused r) text = refused_line (number_of r)
text_of accepted text = text
text_of ended text = text
text_of paused text = text
text_of (route n) text = text
text_of no_route text = text
text_of (written n) text = text

-- the table of the run to its end
abbrev pub end_table : List ℕ → List ℕ
end_table b = run_table b enough_rounds

-- what is printed of a sheet that is judged so
abbrev pub printed_by : Answer → List ℕ → List ℕ
printed_by judged b = text_of judged (listing_of (end_table b) (span_count b) (node_count b))

-- "reads a sheet on standard input, runs it to its end and prints"
unfoldable pub printed : List ℕ → List ℕ
printed b = printed_by (judgement b) b

-- the text stands at the front of the buffer, the rest is as it was, and n is the number of its bytes
pub record Filled (before text after : List ℕ) (n : ℕ) : Type 0 where
  pub bytes : after ≡ text ++ drop (length text) before
  pub count : n ≡ length text

-- the words lent for the table afterwards: the table at their front, or of a refusal as they were
abbrev pub words_by : Answer → List ℕ → List ℕ → List ℕ
words_by judged b table =
    let made = end_table b ++ drop (table_length (node_count b)) table in if is_refused judged then table else made

unfoldable pub words_after : List ℕ → List ℕ → List ℕ
words_after b table = words_by (judgement b) b table

-- the text at the front of the buffer, and every word lent for the table
pub record Reported (b table out table_after out_after : List ℕ) (n : ℕ) : Type 0 where
  pub text : Filled out (printed b) out_after n
  pub words : table_after ≡ words_after b table

-- 2026-09: "A converter takes a sheet at fault in nothing else": the bytes of the converted sheet, or the line of its refusal, 35 left out
unfoldable pub converted_text : List ℕ → List ℕ
converted_text b = text_of (judgement_by false b) (converted b)
