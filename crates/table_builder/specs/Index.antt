-- Which number a type has, by what was noted of it.
use Rattle.std.specs.Prelude.{◌≡◌, ◌<◌, ℕ, List, [], ◌∷◌, Bool, true, false, Option, Some, None, slice_get}
use Rattle.ob_types.specs.declared.types.Formal.{Formal}
use Rattle.ob_types.specs.declared.types.Signature.{Signature}
use Rattle.check_types.specs.declared.types.TypeRef.{TypeRef}
use Rattle.check_types.specs.declared.types.TypeRef.TheVariants as TheType

-- what is noted: the numbers of record, pointer and procedure types, those of arrays by their parts, and procedure types
-- by theirs
pub record Notes : Type 0 where
  pub records : List ℕ
  pub pointers : List ℕ
  pub procedures : List ℕ
  pub arrays : List ℕ → Option ℕ
  pub signatures : List ℕ → Option ℕ

-- an array's parts: its element type, and its length if it has one
abbrev pub array_parts : (element length : ℕ) → List ℕ
array_parts e n = e ∷ n ∷ []

abbrev pub open_parts : (element : ℕ) → List ℕ
open_parts e = e ∷ []

abbrev pub bit : Bool → ℕ
bit true = 1
bit false = 0

-- a procedure type's parts: of each parameter whether it is a VAR parameter and its type, and the result's type
abbrev pub signature_parts : List Formal → (result : ℕ) → List ℕ
signature_parts [] result = result ∷ []
signature_parts (x ∷ xs) result = bit x.variable ∷ x.type_number ∷ signature_parts xs result

-- the basic types come first
abbrev pub number_in : Notes → TypeRef → Option ℕ
number_in s TheType.Int = Some 0
number_in s TheType.Bool = Some 1
number_in s TheType.Char = Some 2
number_in s TheType.Byte = Some 3
number_in s TheType.Set = Some 4
number_in s TheType.Nothing = Some 5
number_in s TheType.Nil = None
number_in s (TheType.Text n) = None
number_in s (TheType.Array n e) = s.arrays (array_parts e n)
number_in s (TheType.Open e) = s.arrays (open_parts e)
number_in s (TheType.Record r) = slice_get s.records r
number_in s (TheType.Pointer p) = slice_get s.pointers p
number_in s (TheType.Procedure g) = slice_get s.procedures g

abbrev pub basic_types : List TypeRef
basic_types = TheType.Int ∷ TheType.Bool ∷ TheType.Char ∷ TheType.Byte ∷ TheType.Set ∷ TheType.Nothing ∷ []

-- a type is noted with its number, and no other is
pub record IsIndex (s : Notes) (entries : List TypeRef) : Type 0 where
  pub says : (e : TypeRef) (n : ℕ) → number_in s e ≡ Some n → slice_get entries n ≡ Some e
  pub all : (e : TypeRef) (n : ℕ) → slice_get entries n ≡ Some e → number_in s e ≡ Some n

-- the procedure type by this number has these parts
pub record HasSignature (signatures : List Signature) (g : ℕ) (parts : List ℕ) : Type 0 where
  pub at : Signature
  pub there : slice_get signatures g ≡ Some at
  pub same : signature_parts at.formals at.result ≡ parts

-- the same of procedure types by their parts
pub record IndexesSignatures (s : Notes) (signatures : List Signature) : Type 0 where
  pub says : (parts : List ℕ) (g : ℕ) → s.signatures parts ≡ Some g → HasSignature signatures g parts
  pub all : (g : ℕ) (x : Signature) → slice_get signatures g ≡ Some x → s.signatures (signature_parts x.formals x.result) ≡ Some g

-- an array of a type that is before this number, and its parts
abbrev pub IsArray : ℕ → TypeRef → List ℕ → Type 0
IsArray k (TheType.Array n e) parts = (e < k) × (parts ≡ array_parts e n)
IsArray k (TheType.Open e) parts = (e < k) × (parts ≡ open_parts e)
IsArray k of parts = ⊥
