-- `write_words` meets its contract: the words passed are written.
use Prim.Native.Nat.{ℕ, ◌+◌}
use mathlib.Core.Path.{◌≡◌, sym, ap, ◌∙◌}
use mathlib.Core.List.{List, [], ◌∷◌}
use native.Mathlib.Omega.{arith}
use lib.ListN.{length}
use Rattle.sheet.specs.Words.{word}
use Rattle.sheet_writer.specs.Words.{words_put}
use Rattle.sheet_writer.proofs.Words.{put_length, put_column_none, put_column_more}
use Rattle.sheet_writer.proofs.write_words.Goals as goal

pub loop-k-init : goal.loop-k-init
loop-k-init c = (omega arith, sym (put_column_none _ _ _))

pub put_word-requires : goal.put_word-requires
put_word-requires c =
    -- the buffer keeps its length
    let long : length c.loop-k.out ≡ length c.args.out.now = ap length c.loop-k.invariant.1 ∙ put_length _ _ _ in
    omega (arith, long)

pub loop-k-preserved : goal.loop-k-preserved
loop-k-preserved c =
    let k = c.loop-k.k in (
      omega arith,
      c.put_word.ensures
          ∙ ap (λ (w : ℕ). words_put c.loop-k.out (c.args.place + k) (w ∷ [])) c.word_at.ensures
          ∙ ap (λ (l : List ℕ). words_put l (c.args.place + k) (word c.args.s.now (c.args.from + k) ∷ [])) c.loop-k.invariant.1
          ∙ put_column_more _ _ _ k,
    )

pub returns : goal.returns
returns c =
    let all : c.args.count ≡ c.loop-k.k = omega arith in
    rw all c.loop-k.invariant.1
