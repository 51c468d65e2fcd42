-- `put_word` meets its contract: the bytes of a word, most significant first, are copied.
use Rattle.std.proofs.Common.{◌≡◌, ◌/◌, ◌%◌, ◌∙◌, arith}
use Rattle.sheet_writer.proofs.Words.{copied}
use Rattle.sheet_writer.proofs.put_word.Goals as goal

pub returns : goal.returns
returns c =
    -- the highest byte
    let high : c.args.w / 16777216 % 256 ≡ c.args.w / 16777216 = omega arith in
    copied _ _ _ _ (c.copy_from_slice.ensures.after ∙ c.to_be_bytes.ensures ∙ rw high) (omega arith) (omega arith)
