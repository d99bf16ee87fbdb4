-- Faults of modules.
use Rattle.std.specs.Prelude.{ℕ, Option, Some, None, map, nat_eq, if◌then◌else◌}
use Rattle.explanations.specs.Entries.{Entry, entry_with}
use Rattle.explanations.specs.declared.faults.TheConstants.{BAD_BYTE, OPEN_COMMENT, OPEN_STRING, NUMBER_TOO_LARGE, NAME_TOO_LONG, SYNTAX, TOO_DEEP, UNKNOWN, TYPE_MISMATCH, NOT_CONSTANT, READ_ONLY, NOT_VISIBLE, CONST_RANGE, REDECLARED, END_NAME, IMPORT_ORDER, BAD_LABEL, BAD_PARAMETER, MISSING_RETURN, BAD_EXTENSION}

-- what the page of this fault says, where there is one
unfoldable pub fault_entry : ℕ → Option Entry
fault_entry number =
    if nat_eq number 10 then Some (entry_with (map (λ t. t.now) BAD_BYTE))
    else (if nat_eq number 11 then Some (entry_with (map (λ t. t.now) OPEN_COMMENT))
    else (if nat_eq number 12 then Some (entry_with (map (λ t. t.now) OPEN_STRING))
    else (if nat_eq number 13 then Some (entry_with (map (λ t. t.now) NUMBER_TOO_LARGE))
    else (if nat_eq number 14 then Some (entry_with (map (λ t. t.now) NAME_TOO_LONG))
    else (if nat_eq number 20 then Some (entry_with (map (λ t. t.now) SYNTAX))
    else (if nat_eq number 21 then Some (entry_with (map (λ t. t.now) TOO_DEEP))
    else (if nat_eq number 30 then Some (entry_with (map (λ t. t.now) UNKNOWN))
    else (if nat_eq number 31 then Some (entry_with (map (λ t. t.now) TYPE_MISMATCH))
    else (if nat_eq number 32 then Some (entry_with (map (λ t. t.now) NOT_CONSTANT))
    else (if nat_eq number 33 then Some (entry_with (map (λ t. t.now) READ_ONLY))
    else (if nat_eq number 34 then Some (entry_with (map (λ t. t.now) NOT_VISIBLE))
    else (if nat_eq number 35 then Some (entry_with (map (λ t. t.now) CONST_RANGE))
    else (if nat_eq number 36 then Some (entry_with (map (λ t. t.now) REDECLARED))
    else (if nat_eq number 37 then Some (entry_with (map (λ t. t.now) END_NAME))
    else (if nat_eq number 38 then Some (entry_with (map (λ t. t.now) IMPORT_ORDER))
    else (if nat_eq number 39 then Some (entry_with (map (λ t. t.now) BAD_LABEL))
    else (if nat_eq number 40 then Some (entry_with (map (λ t. t.now) BAD_PARAMETER))
    else (if nat_eq number 41 then Some (entry_with (map (λ t. t.now) MISSING_RETURN))
    else (if nat_eq number 42 then Some (entry_with (map (λ t. t.now) BAD_EXTENSION))
    else None)))))))))))))))))))
