use Rattle.native_laws.proofs.Images.{leave}
use Rattle.native_laws.proofs.laws.compiled_images_leave_the_frame_register.Goals as goal

pub returns : goal.returns
returns c = leave
