-- What is printed of a sheet and left in the table, case by case: a refused sheet and an accepted one.
use Prim.Native.Nat.{ℕ}
use mathlib.Core.Path.{◌≡◌, sym, ◌∙◌}
use mathlib.Core.List.{List, ◌++◌}
use lib.ListN.{length, drop}
use Rattle.sheet.specs.Sections.{node_count, span_count}
use Rattle.answer.specs.Answer.{number_of, Refusal, refused}
use Rattle.judgement.specs.Judgement.{judgement, Accepted}
use Rattle.procedure.specs.Procedure.{enough_rounds}
use Rattle.calls.specs.Tables.{table_length}
use Rattle.calls.specs.Runs.{table_after}
use Rattle.calls.proofs.Outcome.{usual_right, made, filled_usual}
use Rattle.listing.specs.Listing.{listing_of, refused_line}
use Rattle.listing.specs.Printed.{end_table, printed, Filled, words_after, Reported}

module _ (b : List ℕ) {table out out_after : List ℕ} {n : ℕ} where
  -- of a refused sheet the line of the refusal is printed, and the table stays
  pub reported_refusal : (r : Refusal) → judgement b ≡ refused r → Filled out (refused_line (number_of r)) out_after n
      → Reported b table out table out_after n
  unfolding printed words_after
  reported_refusal r e line = record { text = rw e line; words = rw e }

  -- of an accepted sheet the listing of its table, which stands at the front of the words lent for it
  pub reported_listing : {words : List ℕ} → Accepted b → words ≡ end_table b
      → Filled out (listing_of (end_table b) (span_count b) (node_count b)) out_after n
      → Reported b table out (words ++ drop (table_length (node_count b)) table) out_after n
  unfolding printed words_after
  reported_listing ok made lines = record { text = rw ok.judged lines; words = rw (ok.judged, made) }

-- what a run of an accepted sheet leaves in a table of the usual length
pub run_leaves : (b table : List ℕ) {after : List ℕ} → Accepted b → length table ≡ table_length (node_count b)
    → after ≡ table_after b enough_rounds table → after ≡ end_table b
run_leaves b table ok usual e = e ∙ sym (made b enough_rounds table ok (usual_right b table usual)).1 ∙ filled_usual b enough_rounds table usual
