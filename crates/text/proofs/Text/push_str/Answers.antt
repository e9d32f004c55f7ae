use Rattle.std.proofs.Common.{refl}
use Rattle.text.proofs.Writing.{copied, stored, off}
use Rattle.text.proofs.Text.push_str.Goals as goal
use Rattle.text.proofs.Text.push_str.Goals.{then-self, else-self}

pub loop-b-preserved : goal.loop-b-preserved
loop-b-preserved c =
    let l = c.loop-b in
    copied _ l.b-index l.invariant c.loop-b-test.true (elim c.if-self.branch [
      | then-self w ↦ rw w.self-is (stored refl refl)
      | else-self w ↦ rw w.self-is (off refl refl w.if-self.false)
    ])
