use borrow.Author.Rules.{rules}
use mathlib.Core.Path.{◌∙◌}
use Rattle.taking.specs.Taking.{spliced_byte}
use Rattle.taking.proofs.Splicing.{le_word}
use Rattle.taking.proofs.spliced_bytes.Goals as goal

pub returns : goal.returns
returns c =
    let a = c.args in
    c.from_le_bytes.ensures ∙ le_word c.from_fn.result (spliced_byte a.x a.n a.o a.new.now a.j) (λ i l. let h = c.from_fn.ensures.items.at i 0 l in search rules)
