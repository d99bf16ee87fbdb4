use Rattle.std.proofs.Common.{◌≡◌, ◌++◌, length, drop}
use Rattle.std.specs.Prelude.{All}
use Rattle.std.specs.List.{flat_map}
use Rattle.plain_form.specs.results.Spelling.{result}
use Rattle.plain_form.specs.results.Bounds.{TypedResult}
use Rattle.noted_image.proofs.Written.{all_of}
use Rattle.noted_image.proofs.notes.put_all.Given as goal

abbrev pub invariant-loop-own : goal.invariant-loop-own
invariant-loop-own l = record {
  end : l.own-index-end ≡ length l.outs;
  bytes : l.notes.items ++ flat_map result (all_of (drop l.own-index l.outs)) ≡ l.initial.notes.items ++ flat_map result (all_of l.outs);
  typed : All TypedResult (all_of (drop l.own-index l.outs)) → All TypedResult (all_of l.outs);
}
