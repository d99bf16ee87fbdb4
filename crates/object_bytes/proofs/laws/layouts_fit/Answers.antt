use Rattle.object_bytes.specs.Layouts.{form}
use Rattle.object_bytes.proofs.Rising.{rising}
use Rattle.object_bytes.proofs.Parts.{fine_form, element, last_field, other_field, base_part}
use Rattle.object_bytes.proofs.laws.layouts_fit.Goals as goal

pub returns : goal.returns
returns c = record {
  fine = λ packed t. fine_form (form packed t) (rising packed t);
  element = λ packed n i t lt. element packed n i t lt;
  field = λ packed r t. last_field packed r t;
  behind = λ packed r t c o f part. other_field packed r t c o f part;
  base = λ packed r. base_part packed r;
}
