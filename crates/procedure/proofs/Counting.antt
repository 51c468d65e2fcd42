-- Request 2026-02, "for heights 1 to 15": the working of an inner region is counted at its height, which is h + 1, and at no other.
use Prim.Native.Nat.{ℕ, suc, pred, ◌<◌}
use mathlib.Core.Path.{◌≡◌, ap}
use mathlib.Core.Logic.{◌≢◌}
use lib.ListN.{length}
use lib.Seq.{get_or-set_same, get_or-set_other}
use Rattle.indices.specs.Columns.{at}
use Rattle.procedure.specs.Graph.{Graph}
use Rattle.procedure.specs.Division.{Division, height, level}
use Rattle.procedure.specs.State.{State}
use Rattle.procedure.specs.Procedure.{count_at, count_inner}

module _ (g : Graph) (d : Division) (r : ℕ) (s : State) {h : ℕ} (high : height d r ≡ suc h) where
  at_level : level d r ≡ h
  at_level = ap pred high

  pub one_more_there : h < length s.inner → at (count_inner g d r s).inner h ≡ suc (at s.inner h)
  unfolding count_inner count_at
  one_more_there in_range = rw at_level (get_or-set_same s.inner h (suc (at s.inner h)) 0 in_range)

  pub same_elsewhere : (i : ℕ) → i ≢ h → at (count_inner g d r s).inner i ≡ at s.inner i
  unfolding count_inner count_at
  same_elsewhere i other = rw at_level (get_or-set_other s.inner h i (suc (at s.inner h)) 0 other)
