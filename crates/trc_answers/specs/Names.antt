-- How rules of the language and limits of the compiler are called, by their numbers.
use Rattle.std.specs.Prelude.{ℕ, List, [], ◌∷◌, nat_eq, if◌then◌else◌, codes}

-- the name behind a number
abbrev pub name_behind : List (ℕ × List ℕ) → ℕ → List ℕ
name_behind [] number = []
name_behind (e ∷ es) number = if nat_eq e.0 number then e.1 else name_behind es number

abbrev pub rules : List (ℕ × List ℕ)
rules = (10, codes "BadByte") ∷ (11, codes "OpenComment") ∷ (12, codes "OpenString") ∷ (13, codes "NumberTooLarge")
    ∷ (14, codes "NameTooLong") ∷ (20, codes "Syntax") ∷ (21, codes "TooDeep") ∷ (30, codes "Unknown") ∷ (31, codes "TypeMismatch")
    ∷ (32, codes "NotConstant") ∷ (33, codes "ReadOnly") ∷ (34, codes "NotVisible") ∷ (35, codes "ConstRange")
    ∷ (36, codes "Redeclared") ∷ (37, codes "EndName") ∷ (38, codes "ImportOrder") ∷ (39, codes "BadLabel")
    ∷ (40, codes "BadParameter") ∷ (41, codes "MissingReturn") ∷ (42, codes "BadExtension") ∷ []

abbrev pub limits : List (ℕ × List ℕ)
limits = (50, codes "Values") ∷ (51, codes "Blocks") ∷ (52, codes "Procedures") ∷ (53, codes "Globals") ∷ (54, codes "Code")
    ∷ (55, codes "Source") ∷ (56, codes "Modules") ∷ (57, codes "Traces") ∷ (58, codes "Constants") ∷ (59, codes "Locals")
    ∷ (67, codes "Notes") ∷ (68, codes "Object") ∷ (69, codes "Jobs") ∷ (70, codes "JobBytes") ∷ (71, codes "Page") ∷ []

abbrev pub name_of_rule : ℕ → List ℕ
name_of_rule number = name_behind rules number

abbrev pub name_of_limit : ℕ → List ℕ
name_of_limit number = name_behind limits number
