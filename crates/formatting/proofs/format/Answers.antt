use Rattle.formatting.proofs.Formatting.{miscounted, short, done, whole}
use Rattle.formatting.proofs.format.Goals as goal

pub returns-then-not-word_count_sound : goal.returns-then-not-word_count_sound
returns-then-not-word_count_sound g c =
    let a = c.args in
    miscounted g.L.Layout.kind a.board.now c.word_count_sound.ensures (c.if-not-word_count_sound.true)

pub returns-then-plan-n : goal.returns-then-plan-n
returns-then-plan-n g c =
    let a = c.args in
    let n = whole g.L.Layout.kind c.trailer_place.ensures.is c.words_in.ensures.is in
    short g.L.Layout.kind a.board.now c.word_count_sound.ensures (c.if-not-word_count_sound.false) _ n c.if-plan-n.true

pub returns : goal.returns
returns g c =
    let a = c.args in
    let n = whole g.L.Layout.kind c.trailer_place.ensures.is c.words_in.ensures.is in
    done g.L.Layout.kind a.board.now c.word_count_sound.ensures (c.if-not-word_count_sound.false) _ n a.plan.now c.if-plan-n.false c.lay_format.ensures
