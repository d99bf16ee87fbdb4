use Rattle.modest_flows.proofs.Frames.{frame_small}
use Rattle.modest_flows.proofs.laws.small_flows_have_small_frames.Goals as goal

pub returns : goal.returns
returns c k cut sound paths few = frame_small k cut sound few
