-- Limits of programs and lists.
use Rattle.std.specs.Prelude.{ℕ, Option, Some, None, map, nat_eq, if◌then◌else◌}
use Rattle.explanations.specs.Entries.{Entry, entry_with}
use Rattle.explanations.specs.declared.limits.TheConstants.{VALUES, BLOCKS, PROCEDURES, GLOBALS, CODE, SOURCE, MODULES, TRACES, CONSTANTS, LOCALS, NOTES, OBJECT, JOBS, JOB_BYTES, PAGE}

-- what the page of this limit says, where there is one
unfoldable pub limit_entry : ℕ → Option Entry
limit_entry number =
    if nat_eq number 50 then Some (entry_with (map (λ t. t.now) VALUES))
    else (if nat_eq number 51 then Some (entry_with (map (λ t. t.now) BLOCKS))
    else (if nat_eq number 52 then Some (entry_with (map (λ t. t.now) PROCEDURES))
    else (if nat_eq number 53 then Some (entry_with (map (λ t. t.now) GLOBALS))
    else (if nat_eq number 54 then Some (entry_with (map (λ t. t.now) CODE))
    else (if nat_eq number 55 then Some (entry_with (map (λ t. t.now) SOURCE))
    else (if nat_eq number 56 then Some (entry_with (map (λ t. t.now) MODULES))
    else (if nat_eq number 57 then Some (entry_with (map (λ t. t.now) TRACES))
    else (if nat_eq number 58 then Some (entry_with (map (λ t. t.now) CONSTANTS))
    else (if nat_eq number 59 then Some (entry_with (map (λ t. t.now) LOCALS))
    else (if nat_eq number 67 then Some (entry_with (map (λ t. t.now) NOTES))
    else (if nat_eq number 68 then Some (entry_with (map (λ t. t.now) OBJECT))
    else (if nat_eq number 69 then Some (entry_with (map (λ t. t.now) JOBS))
    else (if nat_eq number 70 then Some (entry_with (map (λ t. t.now) JOB_BYTES))
    else (if nat_eq number 71 then Some (entry_with (map (λ t. t.now) PAGE))
    else None))))))))))))))
