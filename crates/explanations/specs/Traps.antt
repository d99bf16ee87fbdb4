-- Traps of runs.
use Rattle.std.specs.Prelude.{ℕ, Option, Some, None, map, nat_eq, if◌then◌else◌}
use Rattle.explanations.specs.Entries.{Entry, entry_with}
use Rattle.explanations.specs.declared.traps.TheConstants.{INDEX, NIL, GUARD, DIVISOR, ASSERT, CASE, SET_ELEMENT, CALL_DEPTH, LOCAL_DATA, HEAP, RANGE, COPY}

-- what the page of this trap says, where there is one
unfoldable pub trap_entry : ℕ → Option Entry
trap_entry number =
    if nat_eq number 1 then Some (entry_with (map (λ t. t.now) INDEX))
    else (if nat_eq number 2 then Some (entry_with (map (λ t. t.now) NIL))
    else (if nat_eq number 3 then Some (entry_with (map (λ t. t.now) GUARD))
    else (if nat_eq number 4 then Some (entry_with (map (λ t. t.now) DIVISOR))
    else (if nat_eq number 5 then Some (entry_with (map (λ t. t.now) ASSERT))
    else (if nat_eq number 6 then Some (entry_with (map (λ t. t.now) CASE))
    else (if nat_eq number 7 then Some (entry_with (map (λ t. t.now) SET_ELEMENT))
    else (if nat_eq number 8 then Some (entry_with (map (λ t. t.now) CALL_DEPTH))
    else (if nat_eq number 9 then Some (entry_with (map (λ t. t.now) LOCAL_DATA))
    else (if nat_eq number 10 then Some (entry_with (map (λ t. t.now) HEAP))
    else (if nat_eq number 11 then Some (entry_with (map (λ t. t.now) RANGE))
    else (if nat_eq number 12 then Some (entry_with (map (λ t. t.now) COPY))
    else None)))))))))))
