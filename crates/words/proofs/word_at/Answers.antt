use mathlib.Core.Path.{◌∙◌, ap}
use lib.ListN.{take}
use borrow.Author.Rules.{part_to_end}
use Rattle.words.proofs.Endian.{le_word}
use Rattle.words.proofs.word_at.Goals as goal

pub returns : goal.returns
returns c = let a = c.args in
    let chunk = rw c.unwrap.ensures at c.first_chunk.ensures.cases in
    c.from_le_bytes.ensures ∙ le_word a.bytes.now a.at (chunk.same ∙ ap (take 8) (part_to_end a.bytes.now a.at))
