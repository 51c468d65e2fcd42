-- The climbs from all arcs: none had its turn before the first, and after the last every region but 0 did, since it holds an arc.
use Prim.Native.Nat.{ℕ, ◌<◌}
use mathlib.Core.Bool.{Bool, false, cond}
use mathlib.Core.Path.{◌≡◌, refl, sym, ap, ◌∙◌}
use mathlib.Core.List.{List}
use native.Mathlib.Omega.{arith}
use borrow.Author.Tests.{le-ltb}
use lib.ListN.{length, set, length-set, replicate, length-replicate, get_or-replicate}
use Rattle.indices.proofs.Steps.{set_elim}
use Rattle.run_arrays.specs.Rows.{row_leaf}
use Rattle.procedure.specs.Division.{Division, regions}
use Rattle.canonical_form.specs.Numbering.{lowest_arc, rise}
use Rattle.canonical_numbers.specs.Numbers.{passed, Rising, Ready, Starting}
use Rattle.canonical_numbers.proofs.preorder.Counted.{counted_none}
use Rattle.canonical_numbers.proofs.preorder.Rises.{passed_none}

module _ {d : Division} {m : ℕ} {parents sizes arcRows : List ℕ} (A : Starting d m parents sizes arcRows) where
  pub rising_begins : {nexts rises : List ℕ} {k n : ℕ} → k ≡ regions d → n ≡ regions d → nexts ≡ replicate k 1 → rises ≡ set (replicate n 0) 0 1
      → Rising d 0 (regions d) nexts rises
  rising_begins {nexts} {rises} {k} {n} ek en ones zeros =
      let some = A.laid.proper.some in
      let all : List ℕ = replicate n 0 in
      let long : length all ≡ regions d = length-replicate n 0 ∙ en in
      rw zeros (record {
        counted = counted_none d (passed d 0 (regions d)) none ek ones;
        all = simp length-set long;
        root = set_elim (λ x. x ≡ 1) all 0 0 1 0 (omega arith) (λ _. refl) (λ ne. absurd (ne refl));
        risen =
            λ c pos l.
            set_elim (λ x. x ≡ cond (passed d 0 (regions d) c) (rise d c) 0) all 0 c 1 0 (omega arith) (λ e. absurd (omega arith))
            (λ _. get_or-replicate n c 0 0 (omega arith) ∙ sym (ap (λ (b : Bool). cond b (rise d c) 0) (none c l)));
      })
    where
      none : (c : ℕ) → c < regions d → passed d 0 (regions d) c ≡ false
      none c l = passed_none d 0 c l ∙ le-ltb (lowest_arc d c) 0 (omega arith)

  pub climb_ready : {a : ℕ} {nexts rises : List ℕ} → a < m → Rising d a (regions d) nexts rises → Ready d a parents sizes (row_leaf arcRows a) nexts rises
  climb_ready {a} l R = record { laid = A.laid; sized = A.sized; leaf_of_lem = A.leaves a l; rising = R }
