-- Rules of notes.
use Rattle.std.specs.Prelude.{ℕ, Option, Some, None, map, nat_eq, if◌then◌else◌}
use Rattle.explanations.specs.Entries.{Entry, entry_with}
use Rattle.explanations.specs.declared.notes_rules.TheConstants.{SHORT, BAD_MARK, BAD_NUMBER, TRAILING, TOO_LONG}

-- what the page of this rule of notes says, where there is one
unfoldable pub notes_rule_entry : ℕ → Option Entry
notes_rule_entry number =
    if nat_eq number 70 then Some (entry_with (map (λ t. t.now) SHORT))
    else (if nat_eq number 71 then Some (entry_with (map (λ t. t.now) BAD_MARK))
    else (if nat_eq number 72 then Some (entry_with (map (λ t. t.now) BAD_NUMBER))
    else (if nat_eq number 73 then Some (entry_with (map (λ t. t.now) TRAILING))
    else (if nat_eq number 74 then Some (entry_with (map (λ t. t.now) TOO_LONG))
    else None))))
