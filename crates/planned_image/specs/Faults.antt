-- What faults tell.
use Rattle.placed_image.specs.declared.fault.PlacingFault.{PlacingFault}
use Rattle.placed_image.specs.declared.fault.PlacingFault.TheVariants as placing
use Rattle.planned_image.specs.declared.fault.AuditFault.{AuditFault}
use Rattle.planned_image.specs.declared.fault.AuditFault.TheVariants.{Code, Memory}

-- the same fault of placing
abbrev pub of_placing : PlacingFault → AuditFault
of_placing placing.Code = Code
of_placing placing.Memory = Memory
