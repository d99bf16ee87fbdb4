-- Rules of images.
use Rattle.std.specs.Prelude.{ℕ, Option, Some, None, map, nat_eq, if◌then◌else◌}
use Rattle.explanations.specs.Entries.{Entry, entry_with}
use Rattle.explanations.specs.declared.image_rules.TheConstants.{SHORT, BAD_MARK, BAD_VERSION, BAD_LENGTH, TRAILING, TOO_LONG, BAD_PLACE}

-- what the page of this rule of images says, where there is one
unfoldable pub image_rule_entry : ℕ → Option Entry
image_rule_entry number =
    if nat_eq number 60 then Some (entry_with (map (λ t. t.now) SHORT))
    else (if nat_eq number 61 then Some (entry_with (map (λ t. t.now) BAD_MARK))
    else (if nat_eq number 62 then Some (entry_with (map (λ t. t.now) BAD_VERSION))
    else (if nat_eq number 63 then Some (entry_with (map (λ t. t.now) BAD_LENGTH))
    else (if nat_eq number 64 then Some (entry_with (map (λ t. t.now) TRAILING))
    else (if nat_eq number 65 then Some (entry_with (map (λ t. t.now) TOO_LONG))
    else (if nat_eq number 66 then Some (entry_with (map (λ t. t.now) BAD_PLACE))
    else None))))))
