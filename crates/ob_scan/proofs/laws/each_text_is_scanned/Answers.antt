use Rattle.ob_scan.proofs.Every.{every_scan}
use Rattle.ob_scan.proofs.laws.each_text_is_scanned.Goals as goal

pub returns : goal.returns
returns c = every_scan
