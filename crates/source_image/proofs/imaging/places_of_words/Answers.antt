use Rattle.image_file.proofs.Places.{numbers_more_read}
use Rattle.source_image.proofs.imaging.places_of_words.Goals as goal

pub loop-place-preserved : goal.loop-place-preserved
loop-place-preserved c = numbers_more_read c.args.places.now c.loop-place.place-index (record { word = 0; «module» = 0; line = 0 }) c.loop-place-test.true c.loop-place.invariant c.place_of_words.ensures
