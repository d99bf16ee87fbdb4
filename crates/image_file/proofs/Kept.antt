-- Bytes that break no rule.
use Rattle.std.proofs.Common.{◌≡◌, ℕ, Bool, true, false, ◌&&◌, List, [], ◌∷◌, ◌++◌, length, take, Option, Some, None, Result, Ok, Err, IsErrAnd, refl, sym, subst, ◌∙◌}
use Rattle.std.specs.Prelude.{◌==◌, nat_le}
use Rattle.std.specs.Str.{bytes_eq}
use Rattle.image_file.specs.Spelling.{mark}
use Rattle.image_file.specs.declared.fault.ImageFault.{ImageFault}
use Rattle.image_file.specs.declared.fault.ImageFault.TheVariants.{Fault, Memory}
use Rattle.image_file.specs.Rules.{Broken, rule, first_of, first_fault, field, is_version, header_length, most_frame, places_in, is_count, is_code, is_whole, said, first_place, asked, place_rules, Refuses}

pub both_true : (a b : Bool) → (a && b) ≡ true → (a ≡ true) × (b ≡ true)
both_true true true e = (refl, refl)
both_true true false e = absurd cc
both_true false b e = absurd cc

pub both : (a b : Bool) → a ≡ true → b ≡ true → (a && b) ≡ true
both true true e f = refl
both true false e f = absurd cc
both false b e f = absurd cc

---- Rules one after the other

-- where the first are kept, the others say what is broken
pub first_of_kept : (xs ys : List (Option Broken)) → first_of xs ≡ None → first_of (xs ++ ys) ≡ first_of ys
first_of_kept [] ys none = refl
first_of_kept (None ∷ xs) ys none = first_of_kept xs ys none
first_of_kept (Some b ∷ xs) ys none = absurd cc

first_of_broken : (xs ys : List (Option Broken)) (b : Broken) → first_of xs ≡ Some b → first_of (xs ++ ys) ≡ Some b
first_of_broken [] ys b some = absurd cc
first_of_broken (None ∷ xs) ys b some = first_of_broken xs ys b some
first_of_broken (Some c ∷ xs) ys b some = some

-- a refusal by the first is one by all
pub refuses_first : (e : ImageFault) (xs ys : List (Option Broken)) → Refuses e (first_of xs) → Refuses e (first_of (xs ++ ys))
refuses_first Memory xs ys refuses = tt
refuses_first (Fault number at) xs ys refuses = first_of_broken xs ys _ refuses

pub refuses_then : (e : ImageFault) (xs ys : List (Option Broken)) → first_of xs ≡ None → Refuses e (first_of ys) → Refuses e (first_of (xs ++ ys))
refuses_then e xs ys none refuses = subst (Refuses e) (sym (first_of_kept xs ys none)) refuses

-- what a call refuses, the caller does
pub passed_on : {A : Type 0} (r : Result A ImageFault) (fault e : ImageFault) (P : ImageFault → Type 0) → IsErrAnd r (λ x. x ≡ fault) → r ≡ Err e → P fault → P e
passed_on (Ok a) fault e P same is holds = absurd same
passed_on (Err x) fault e P same is holds = let one : x ≡ e = cc in subst P (sym same ∙ one) holds

---- All rules

-- what each rule asks
pub record Keeps (bytes : List ℕ) : Type 0 where
  pub long : nat_le 32 (length bytes) ≡ true
  pub marked : bytes_eq (take 8 bytes) mark ≡ true
  pub version : is_version (field bytes 8) ≡ true
  pub whole : nat_le (header_length (field bytes 8)) (length bytes) ≡ true
  pub flags : nat_le (field bytes 12) 1 ≡ true
  pub code : is_code (field bytes 16) ≡ true
  pub globals : is_whole 8388608 (field bytes 20) ≡ true
  pub constants : is_whole 2097152 (field bytes 24) ≡ true
  pub frame : is_whole (most_frame (field bytes 8)) (field bytes 28) ≡ true
  pub count : is_count (field bytes 8) (places_in (field bytes 8) bytes) ≡ true
  pub enough : nat_le (asked (said bytes)) (length bytes) ≡ true
  pub ended : (length bytes == asked (said bytes)) ≡ true
  pub places : first_of (place_rules bytes (field bytes 16) (first_place (said bytes)) 0 (places_in (field bytes 8) bytes)) ≡ None

-- where the first of some rules is broken nowhere, the first is kept, and the others are
pub one_kept : (holds : Bool) (number at : ℕ) (others : List (Option Broken)) → first_of (rule holds number at ∷ others) ≡ None → (holds ≡ true) × (first_of others ≡ None)
one_kept true number at others none = (refl, none)
one_kept false number at others none = absurd cc

-- and where the first is kept, the others say what is broken
pub one_on : (holds : Bool) (number at : ℕ) (others : List (Option Broken)) → holds ≡ true → first_of (rule holds number at ∷ others) ≡ first_of others
one_on true number at others kept = refl
one_on false number at others kept = absurd cc

pub one_broken : (holds : Bool) (number at : ℕ) (others : List (Option Broken)) → holds ≡ false → first_of (rule holds number at ∷ others) ≡ Some (record { number = number; at = at })
one_broken true number at others broken = absurd cc
one_broken false number at others broken = refl

pub keeps_all : (bytes : List ℕ) → first_fault bytes ≡ None → Keeps bytes
keeps_all bytes none =
    let a = one_kept _ _ _ _ none in
    let b = one_kept _ _ _ _ a.1 in
    let c = one_kept _ _ _ _ b.1 in
    let d = one_kept _ _ _ _ c.1 in
    let e = one_kept _ _ _ _ d.1 in
    let f = one_kept _ _ _ _ e.1 in
    let g = one_kept _ _ _ _ f.1 in
    let h = one_kept _ _ _ _ g.1 in
    let i = one_kept _ _ _ _ h.1 in
    let j = one_kept _ _ _ _ i.1 in
    let k = one_kept _ _ _ _ j.1 in
    let l = one_kept _ _ _ _ k.1 in
    record { long = a.0; marked = b.0; version = c.0; whole = d.0; flags = e.0; code = f.0; globals = g.0; constants = h.0; frame = i.0; count = j.0; enough = k.0; ended = l.0; places = l.1 }

pub no_fault : (bytes : List ℕ) → Keeps bytes → first_fault bytes ≡ None
no_fault bytes k =
    one_on _ _ _ _ k.long
    ∙ one_on _ _ _ _ k.marked
    ∙ one_on _ _ _ _ k.version
    ∙ one_on _ _ _ _ k.whole
    ∙ one_on _ _ _ _ k.flags
    ∙ one_on _ _ _ _ k.code
    ∙ one_on _ _ _ _ k.globals
    ∙ one_on _ _ _ _ k.constants
    ∙ one_on _ _ _ _ k.frame
    ∙ one_on _ _ _ _ k.count
    ∙ one_on _ _ _ _ k.enough
    ∙ one_on _ _ _ _ k.ended
    ∙ k.places
