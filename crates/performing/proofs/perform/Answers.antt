use Rattle.performing.proofs.Performing.{miscounted, short, stray, done}
use Rattle.performing.proofs.perform.Goals as goal

pub returns-then-not-word_count_sound : goal.returns-then-not-word_count_sound
returns-then-not-word_count_sound g c = miscounted c.word_count_sound.ensures (c.if-not-word_count_sound.true)

pub returns-then-plan-pairs : goal.returns-then-plan-pairs
returns-then-plan-pairs g c = short c.word_count_sound.ensures (c.if-not-word_count_sound.false) c.if-plan-pairs.true

pub returns-then-not-addresses_sound : goal.returns-then-not-addresses_sound
returns-then-not-addresses_sound g c =
    stray c.word_count_sound.ensures (c.if-not-word_count_sound.false) c.if-plan-pairs.false c.addresses_sound.ensures (c.if-not-addresses_sound.true)

pub returns : goal.returns
returns g c =
    done c.word_count_sound.ensures (c.if-not-word_count_sound.false) c.if-plan-pairs.false c.addresses_sound.ensures (c.if-not-addresses_sound.false)
    c.store_all.ensures
