-- Rules of objects.
use Rattle.std.specs.Prelude.{ℕ, Option, Some, None, map, nat_eq, if◌then◌else◌}
use Rattle.explanations.specs.Entries.{Entry, entry_with}
use Rattle.explanations.specs.declared.object_rules.TheConstants.{SHORT, BAD_MARK, BAD_NUMBER, TRAILING, TOO_LONG}

-- what the page of this rule of objects says, where there is one
unfoldable pub object_rule_entry : ℕ → Option Entry
object_rule_entry number =
    if nat_eq number 80 then Some (entry_with (map (λ t. t.now) SHORT))
    else (if nat_eq number 81 then Some (entry_with (map (λ t. t.now) BAD_MARK))
    else (if nat_eq number 82 then Some (entry_with (map (λ t. t.now) BAD_NUMBER))
    else (if nat_eq number 83 then Some (entry_with (map (λ t. t.now) TRAILING))
    else (if nat_eq number 84 then Some (entry_with (map (λ t. t.now) TOO_LONG))
    else None))))
