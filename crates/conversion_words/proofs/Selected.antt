-- The words of the indices that are kept, written one index after the other: each index's stand at the place of its number.
use Rattle.std.specs.Prelude.{if◌then◌else◌}
use Prim.Native.Nat.{ℕ, ◌+◌, ◌*◌, ◌<◌, ◌≤◌}
use mathlib.Core.Bool.{Bool}
use mathlib.Core.List.{List, []}
use mathlib.Core.Path.{◌≡◌, sym, ap, ◌∙◌}
use native.Mathlib.Omega.{arith}
use lib.ListN.{length}
use Rattle.indices.specs.Columns.{selected}
use Rattle.indices.specs.Tests.{count}
use Rattle.indices.proofs.Selected.{selected_none, selected_more, selected_length}
use Rattle.sheet_writer.specs.Words.{words_put}
use Rattle.sheet_writer.proofs.Words.{put_none, put_then}

-- of n indices those before i are passed, and the words of each that is kept are written from a place on
pub record Writing (kept : ℕ → Bool) (entries : ℕ → List ℕ) (n : ℕ) (before : List ℕ) (place : ℕ) (out : List ℕ) (i : ℕ) : Type 0 where
  pub within : i ≤ n
  pub sofar : out ≡ words_put before place (selected kept entries i)

module _ {kept : ℕ → Bool} {entries : ℕ → List ℕ} {n : ℕ} {before : List ℕ} {place : ℕ} where
  pub writing_none : Writing kept entries n before place before 0
  writing_none = record { within = omega arith; sofar = sym (ap (words_put before place) (selected_none kept entries) ∙ put_none before place) }

  module _ {out : List ℕ} {i : ℕ} (W : Writing kept entries n before place out i) where
    -- w words for each index
    pub writing_more : {out' : List ℕ} (w : ℕ) → ((j : ℕ) → length (entries j) ≡ w) → i < n
        → out' ≡ words_put out (place + w * count kept i) (if kept i then entries i else []) → Writing kept entries n before place out' (i + 1)
    writing_more w each inside e =
        let here = if kept i then entries i else [] in
        record {
          within = omega arith;
          sofar =
              e
              ∙ ap (λ (l : List ℕ). words_put l (place + w * count kept i) here) W.sofar
              ∙ ap (λ (k : ℕ). words_put (words_put before place (selected kept entries i)) (place + k) here)
              (sym (selected_length kept entries w i (λ j _. each j)))
              ∙ put_then before place (selected kept entries i) here
              ∙ ap (words_put before place) (sym (selected_more kept entries i));
        }

    pub writing_end : n ≤ i → out ≡ words_put before place (selected kept entries n)
    writing_end past =
        W.sofar ∙ ap (λ (k : ℕ). words_put before place (selected kept entries k)) (let e : i ≡ n = omega (arith, W.within) in e)
