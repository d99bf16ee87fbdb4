-- How operations are called.
use Rattle.std.specs.Prelude.{ℕ, List, [], ◌∷◌, ◌++◌, codes, slice_index_or}
use Rattle.std.specs.Fmt.{decimal}
use Rattle.block_runs.specs.declared.code.Code.{Code as Template}
use Rattle.block_runs.specs.declared.code.Code.TheVariants.{Const, Global, Local, Plus, Code, Arg, Load, Store, LoadByte, StoreByte, Add, Sub, And, Or, Eor, Bic, Lsl, Asr, Ror, Mul, MulAdd, Neg, Not, Abs, Max0, Odd, Set, Flip, Bit, Span, Has, Div, Mod, Below, Fits, Byte, Elem, NotNil, True, IsPtr, IsTag, GuardPtr, GuardTag, New, Call, CallAt, Copy, Zero, Compare, Svc}

-- a name, and the number behind it
abbrev pub numbered : List ℕ → ℕ → List ℕ
numbered name n = name ++ (codes " " ++ decimal n)

-- the condition of a number
abbrev pub condition_names : List (List ℕ)
condition_names =
    codes "eq" ∷ codes "ne" ∷ codes "hs" ∷ codes "lo" ∷ codes "mi" ∷ codes "pl" ∷ codes "vs" ∷ codes "vc" ∷ codes "hi" ∷ codes "ls" ∷ codes "ge" ∷ codes "lt" ∷ codes "gt"
    ∷ codes "le" ∷ codes "al" ∷ []

abbrev pub condition_text : ℕ → List ℕ
condition_text n = slice_index_or condition_names n []

-- what an operation does, with its numbers
abbrev pub code_text : Template → List ℕ
code_text (Const n) = numbered (codes "Const") n
code_text (Global n) = numbered (codes "Global") n
code_text (Local n) = numbered (codes "Local") n
code_text (Plus n) = numbered (codes "Plus") n
code_text (Code n) = numbered (codes "Code") n
code_text (Arg n) = numbered (codes "Arg") n
code_text Load = codes "Load"
code_text Store = codes "Store"
code_text LoadByte = codes "LoadByte"
code_text StoreByte = codes "StoreByte"
code_text Add = codes "Add"
code_text Sub = codes "Sub"
code_text And = codes "And"
code_text Or = codes "Or"
code_text Eor = codes "Eor"
code_text Bic = codes "Bic"
code_text Lsl = codes "Lsl"
code_text Asr = codes "Asr"
code_text Ror = codes "Ror"
code_text Mul = codes "Mul"
code_text MulAdd = codes "MulAdd"
code_text Neg = codes "Neg"
code_text Not = codes "Not"
code_text Abs = codes "Abs"
code_text Max0 = codes "Max0"
code_text Odd = codes "Odd"
code_text (Set c) = codes "Set " ++ condition_text c
code_text Flip = codes "Flip"
code_text Bit = codes "Bit"
code_text Span = codes "Span"
code_text Has = codes "Has"
code_text Div = codes "Div"
code_text Mod = codes "Mod"
code_text Below = codes "Below"
code_text Fits = codes "Fits"
code_text Byte = codes "Byte"
code_text Elem = codes "Elem"
code_text NotNil = codes "NotNil"
code_text True = codes "True"
code_text (IsPtr n) = numbered (codes "IsPtr") n
code_text (IsTag n) = numbered (codes "IsTag") n
code_text (GuardPtr n) = numbered (codes "GuardPtr") n
code_text (GuardTag n) = numbered (codes "GuardTag") n
code_text New = codes "New"
code_text (Call n) = numbered (codes "Call") n
code_text CallAt = codes "CallAt"
code_text Copy = codes "Copy"
code_text Zero = codes "Zero"
code_text Compare = codes "Compare"
code_text (Svc n) = numbered (codes "Svc") n
