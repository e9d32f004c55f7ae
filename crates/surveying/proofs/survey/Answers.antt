use Rattle.kinds.proofs.Figures.{words_pos, few_blocks}
use Rattle.surveying.proofs.Surveying.{miscounted, mistrailed, damaged, surveyed}
use Rattle.surveying.proofs.survey.Goals as goal

pub returns-then-not-word_count_sound : goal.returns-then-not-word_count_sound
returns-then-not-word_count_sound g c = miscounted c.word_count_sound.ensures (c.if-not-word_count_sound.true)

pub returns-then-not-trailer_sound : goal.returns-then-not-trailer_sound
returns-then-not-trailer_sound g c =
    mistrailed c.word_count_sound.ensures (c.if-not-word_count_sound.false) c.trailer_sound.ensures
    (c.if-not-trailer_sound.true)

pub returns-then-not-live : goal.returns-then-not-live
returns-then-not-live g c = let k = g.L.Layout.kind in
    damaged c.word_count_sound.ensures (c.if-not-word_count_sound.false) (words_pos k) (few_blocks k) c.trailer_sound.ensures
    (c.if-not-trailer_sound.false) c.requires
    c.live.ensures (c.if-not-live.true)

pub returns : goal.returns
returns g c = let k = g.L.Layout.kind in
    surveyed c.word_count_sound.ensures (c.if-not-word_count_sound.false) (words_pos k) (few_blocks k) c.trailer_sound.ensures
    (c.if-not-trailer_sound.false) c.requires
    c.live.ensures (c.if-not-live.false)
