-- Every row of the table of readings holds, by computation.
-- Assumes nothing.
use mathlib.Core.Path.{refl}
use Rattle.words.specs.Sized.{list_of}
use Rattle.words.specs.Bits.{bit, from_bits}
use Rattle.words.specs.Rotation.{rotl, shl}
use Rattle.words.specs.Bytes.{word_of, words_of}
use Rattle.bitslice.specs.Boxes.{nibble_at, box_on, boxes, box}
use Rattle.bitslice.specs.Linear.{step, run, linear}
use Rattle.serpent.specs.Schedule.{padded, prekeys}
use Rattle.answers.specs.Answers.{◌when◌, on_done, first_number}
use Rattle.event.specs.Event.{twos, class_of, readable, event_of}
use Rattle.event.specs.Read.{event_number, no_event, reading}
use Rattle.frame.specs.Frame.{frame_number}
use Rattle.demands.specs.Readings.{table, Hold}

pub readings : Hold table
unfolding Hold table list_of bit from_bits rotl shl word_of words_of nibble_at box_on boxes box step run linear padded prekeys ◌when◌ on_done first_number twos class_of readable event_of event_number no_event reading frame_number
readings = (refl, (refl, (refl, (refl, (refl, (refl, (refl, (refl, (refl, (refl, (refl, (refl, (refl, (refl, tt))))))))))))))
