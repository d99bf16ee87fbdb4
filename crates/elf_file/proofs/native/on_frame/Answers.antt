use Rattle.std.proofs.Common.{sym, ◌∙◌}
use Rattle.elf_file.proofs.Others.{frame_other}
use Rattle.elf_file.proofs.native.on_frame.Goals as goal

pub returns-in_default : goal.returns-in_default
returns-in_default c = c.access_on_frame.ensures ∙ sym (frame_other c.args.instr c.in_default.not-AddImm c.in_default.not-SubImm c.in_default.not-SubsImm)
