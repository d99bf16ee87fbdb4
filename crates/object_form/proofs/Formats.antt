-- What is read of an object is spelled so, and what is spelled so is read again.
use Rattle.std.proofs.Common.{◌≡◌, ℕ, zero, suc, ◌+◌, ◌≤◌, Bool, true, false, cond, List, ◌++◌, length, take, drop, Result, Ok, refl, sym, ap, subst, ◌∙◌, append_assoc, arith, lit<, inl, inr}
use Rattle.std.specs.Prelude.{nat_lt}
use Rattle.std.proofs.lemmas.Bool.{cases_lt, ltb-false, le-ltb}
use Rattle.std.proofs.lemmas.List.{take_at, drop_at, take-append-drop, length-append, length-take, get_or-drop, get_or-take, get_or_past}
use Rattle.trace_build.specs.declared.builder.Builder.{Builder}
use Rattle.trace_build.specs.declared.builder.Builder.TheVariants.{Uni, Bi}
use Rattle.alloc_choice.specs.declared.choice.Policy.{Policy}
use Rattle.alloc_choice.specs.declared.choice.Policy.TheVariants.{Plain, Linear, BottomUp, Mixed}
use Rattle.lir_core.specs.declared.places.TraceOut.{TraceOut}
use Rattle.plain_form.specs.Formats.{IsBytes, Takes, IsFormat}
use Rattle.plain_form.specs.Spelling.{number, list, IsNumber, KeepsList}
use Rattle.plain_form.specs.Reading.{Broken, Reading, ◌>>=◌, missing, out_of_range, up_to_at, list_at}
use Rattle.plain_form.specs.results.Spelling.{result}
use Rattle.plain_form.specs.results.Reading.{result_at}
use Rattle.plain_form.specs.results.Bounds.{FitsResult}
use Rattle.plain_form.proofs.Formats.{bind_ok, bind_of, give, done, ok_is, takes_then, up_to_format, pair_format, list_format}
use Rattle.plain_form.proofs.ResultFormats.{result_format}
use Rattle.object_form.specs.declared.object.Object.{Object}
use Rattle.object_form.specs.Objects.{most_source, policy_number, builder_number, text, spelled, AreRegs, IsSource, IsObject}
use Rattle.object_form.specs.Reading.{policy_by, builder_by, policy_at, builder_at, regs_at, bytes_at, source_at, built_at, chosen_at, kept_at, object_of, object_at}

---- By other values

-- what a format reads, seen by another value for each
as_format : {X Z : Type 0} (spell : X → List ℕ) (read : Reading X) (Fits : X → Type 0) (make : X → Z) (back : Z → X) → ((z : Z) → make (back z) ≡ z) → ((x : X) → Fits x → back (make x) ≡ x) → ((z : Z) → Fits (back z))
    → IsFormat spell read Fits → IsFormat (λ z. spell (back z)) (λ bytes. read bytes >>= λ x. give (make x.0) x.1) (λ z. Unit {0})
as_format {X} {Z} spell read Fits make back there here fits f = record {
  takes = λ bytes z rest b e.
      let a = bind_ok (read bytes) (λ x. give (make x.0) x.1) (z, rest) e in
      let t = f.takes bytes a.0.0 a.0.1 b a.1 in
      let made : Z × List ℕ = (make a.0.0, a.0.1) in
      (subst (λ (y : Z × List ℕ). Takes bytes (spell (back y.0)) y.1) (ok_is made (z, rest) a.2) (subst (λ x. Takes bytes (spell x) a.0.1) (sym (here a.0.0 t.1)) t.0), tt);
  again = λ z rest u.
      bind_of (read (spell (back z) ++ rest)) (λ x. give (make x.0) x.1) (back z, rest) (f.again (back z) rest (fits z))
      ∙ ap (λ y. give y rest) (there z);
}

pub policy_there : (p : Policy) → policy_by (policy_number p) ≡ p
policy_there Plain = refl
policy_there Linear = refl
policy_there BottomUp = refl
policy_there Mixed = refl

policy_here : (n : ℕ) → n ≤ 3 → policy_number (policy_by n) ≡ n
policy_here zero le = refl
policy_here (suc zero) le = refl
policy_here (suc (suc zero)) le = refl
policy_here (suc (suc (suc zero))) le = refl
policy_here (suc (suc (suc (suc n)))) le = absurd (omega arith)

policy_fits : (p : Policy) → policy_number p ≤ 3
policy_fits Plain = omega arith
policy_fits Linear = omega arith
policy_fits BottomUp = omega arith
policy_fits Mixed = omega arith

pub builder_there : (b : Builder) → builder_by (builder_number b) ≡ b
builder_there Uni = refl
builder_there Bi = refl

builder_here : (n : ℕ) → n ≤ 1 → builder_number (builder_by n) ≡ n
builder_here zero le = refl
builder_here (suc zero) le = refl
builder_here (suc (suc n)) le = absurd (omega arith)

builder_fits : (b : Builder) → builder_number b ≤ 1
builder_fits Uni = omega arith
builder_fits Bi = omega arith

policy_format : (total : ℕ) → IsFormat (λ p. number (policy_number p)) (policy_at total) (λ p. Unit {0})
unfolding policy_at
policy_format total = as_format number (up_to_at 3 total) (λ n. n ≤ 3) policy_by policy_number policy_there policy_here policy_fits (up_to_format 3 total (lit< tt))

builder_format : (total : ℕ) → IsFormat (λ b. number (builder_number b)) (builder_at total) (λ b. Unit {0})
unfolding builder_at
builder_format total = as_format number (up_to_at 1 total) (λ n. n ≤ 1) builder_by builder_number builder_there builder_here builder_fits (up_to_format 1 total (lit< tt))

---- How many registers there are

guard_over : {A : Type 0} (b : Bool) (d : Result A Broken) (x y : A) → cond b d (Ok x) ≡ Ok y → (d ≡ Ok y → ⊥) → (b ≡ false) × (x ≡ y)
guard_over true d x y e h = absurd (h e)
guard_over false d x y e h = (refl, cc)

no_range : (total : ℕ) (bytes : List ℕ) (y : ℕ × List ℕ) → out_of_range total bytes ≡ Ok y → ⊥
no_range total bytes y e = cc

regs_format : (total : ℕ) → IsFormat number (regs_at total) AreRegs
unfolding regs_at
regs_format total = record {
  takes = λ bytes x rest b e.
      let f = up_to_format 16 total (lit< tt) in
      let a = bind_ok (up_to_at 16 total bytes) (λ n. cond (nat_lt n.0 4) (out_of_range total bytes) (Ok n)) (x, rest) e in
      let g = guard_over (nat_lt a.0.0 4) (out_of_range total bytes) a.0 (x, rest) a.2 (no_range total bytes (x, rest)) in
      let n-is : a.0.0 ≡ x = ap (λ (p : ℕ × List ℕ). p.0) g.1 in
      let t = f.takes bytes x rest b (a.1 ∙ ap (λ (p : ℕ × List ℕ). Ok p) g.1) in
      let enough : 4 ≤ a.0.0 = ltb-false _ _ g.0 in
      (t.0, (omega (arith, n-is, enough), t.1));
  again = λ x rest fits.
      let inside : nat_lt x 4 ≡ false = le-ltb _ _ fits.0 in
      bind_of (up_to_at 16 total (number x ++ rest)) (λ n. cond (nat_lt n.0 4) (out_of_range total (number x ++ rest)) (Ok n)) (x, rest) ((up_to_format 16 total (lit< tt)).again x rest fits.1)
      ∙ ap (λ b. cond b (out_of_range total (number x ++ rest)) (done (x, rest))) inside;
}

---- Texts

IsBytes-drop : (n : ℕ) (bytes : List ℕ) → IsBytes bytes → IsBytes (drop n bytes)
IsBytes-drop n bytes h i = rw get_or-drop (h (n + i))

IsBytes-take : (n : ℕ) (bytes : List ℕ) → IsBytes bytes → IsBytes (take n bytes)
IsBytes-take n bytes h i =
    elim (cases_lt i n) [
      | inl lt ↦ rw (get_or-take n bytes i 0 lt) (h i)
      | inr le ↦ rw (get_or_past (take n bytes) i 0 (omega (arith, length-take n bytes))) (omega arith)
    ]

-- what was taken of bytes
record Front (all : List ℕ) (count : ℕ) (x rest : List ℕ) : Type 0 where
  pub text : Takes all x rest
  pub long : length x ≡ count
  pub bytes : IsBytes x

no_missing : {A : Type 0} (total : ℕ) (y : A) → missing total ≡ Ok y → ⊥
no_missing total y e = cc

front_takes : (total count : ℕ) (bytes x rest : List ℕ) → IsBytes bytes → bytes_at total count bytes ≡ Ok (x, rest) → Front bytes count x rest
unfolding bytes_at
front_takes total count bytes x rest b e =
    let g = guard_over (nat_lt (length bytes) count) (missing total) (take count bytes, drop count bytes) (x, rest) e (no_missing total (x, rest)) in
    let enough : count ≤ length bytes = ltb-false _ _ g.0 in
    let taken : Front bytes count (take count bytes) (drop count bytes) =
    record {
      text = record { parts = sym (take-append-drop count bytes); rest_fits = IsBytes-drop count bytes b };
      long = omega (arith, length-take count bytes);
      bytes = IsBytes-take count bytes b;
    } in
    subst (λ (y : List ℕ × List ℕ). Front bytes count y.0 y.1) g.1 taken

front_again : (total : ℕ) (x rest : List ℕ) → bytes_at total (length x) (x ++ rest) ≡ Ok (x, rest)
unfolding bytes_at
front_again total x rest =
    let long : nat_lt (length (x ++ rest)) (length x) ≡ false = le-ltb _ _ (omega (arith, length-append x rest)) in
    ap (λ b. cond b (missing {X = List ℕ × List ℕ} total) (give (take (length x) (x ++ rest)) (drop (length x) (x ++ rest)))) long
    ∙ ap (λ t. give t (drop (length x) (x ++ rest))) (take_at x rest (length x) refl)
    ∙ ap (λ d. give x d) (drop_at x rest (length x) refl)

source_format : (total : ℕ) → IsFormat text (source_at total) IsSource
unfolding source_at
source_format total = record {
  takes = λ bytes x rest b e.
      let f = up_to_format most_source total (lit< tt) in
      let a = bind_ok (up_to_at most_source total bytes) (λ n. bytes_at total n.0 n.1) (x, rest) e in
      let t = f.takes bytes a.0.0 a.0.1 b a.1 in
      let s = front_takes total a.0.0 a.0.1 x rest t.0.rest_fits a.2 in
      let both = takes_then bytes (number a.0.0) a.0.1 x rest t.0 s.text in
      let same : a.0.0 ≡ length x = sym s.long in
      (subst (λ n. Takes bytes (number n ++ x) rest) same both, (omega (arith, same, t.1), s.bytes));
  again = λ x rest fits.
      ap (λ bytes. up_to_at most_source total bytes >>= λ n. bytes_at total n.0 n.1) (append_assoc (number (length x)) x rest)
      ∙ bind_of (up_to_at most_source total (number (length x) ++ (x ++ rest))) (λ n. bytes_at total n.0 n.1) (length x, x ++ rest) ((up_to_format most_source total (lit< tt)).again (length x) (x ++ rest) fits.0)
      ∙ front_again total x rest;
}

---- The whole

abbrev chosen_text : Policy × (Builder × ℕ) → List ℕ
chosen_text c = number (policy_number c.0) ++ (number (builder_number c.1.0) ++ number c.1.1)

abbrev ChosenFits : Policy × (Builder × ℕ) → Type 0
ChosenFits c = Unit {0} × (Unit {0} × AreRegs c.1.1)

abbrev kept_text : List ℕ × List TraceOut → List ℕ
kept_text k = text k.0 ++ list result k.1

abbrev KeptFits : List ℕ × List TraceOut → Type 0
KeptFits k = IsSource k.0 × KeepsList IsNumber FitsResult k.1

built_format : (total : ℕ) → IsFormat (λ (b : Builder × ℕ). number (builder_number b.0) ++ number b.1) (built_at total) (λ b. Unit {0} × AreRegs b.1)
unfolding built_at
built_format total = pair_format (λ b. number (builder_number b)) (builder_at total) (λ b. Unit {0}) number (regs_at total) AreRegs (λ b k. let x : Builder × ℕ = (b, k) in x) (λ x. x.0) (λ x. x.1) (λ x. refl) (λ b k. refl) (λ b k. refl) (builder_format total) (regs_format total)

chosen_format : (total : ℕ) → IsFormat chosen_text (chosen_at total) ChosenFits
unfolding chosen_at
chosen_format total = pair_format (λ p. number (policy_number p)) (policy_at total) (λ p. Unit {0}) (λ (b : Builder × ℕ). number (builder_number b.0) ++ number b.1) (built_at total) (λ b. Unit {0} × AreRegs b.1) (λ p b. let x : Policy × (Builder × ℕ) = (p, b) in x) (λ x. x.0) (λ x. x.1) (λ x. refl) (λ p b. refl) (λ p b. refl) (policy_format total) (built_format total)

kept_format : (total : ℕ) → IsFormat kept_text (kept_at total) KeptFits
unfolding kept_at
kept_format total = pair_format text (source_at total) IsSource (list result) (list_at (result_at total) total) (KeepsList IsNumber FitsResult) (λ s o. let x : List ℕ × List TraceOut = (s, o) in x) (λ x. x.0) (λ x. x.1) (λ x. refl) (λ s o. refl) (λ s o. refl) (source_format total) (list_format result (result_at total) FitsResult (result_format total) total)

abbrev pub ObjectFits : Object → Type 0
ObjectFits o = ChosenFits (o.policy, (o.builder, o.regs)) × KeptFits (o.source, o.outs)

pub object_format : (total : ℕ) → IsFormat spelled (object_at total) ObjectFits
unfolding object_at
object_format total = pair_format chosen_text (chosen_at total) ChosenFits kept_text (kept_at total) KeptFits object_of (λ o. (o.policy, (o.builder, o.regs))) (λ o. (o.source, o.outs)) (λ o. refl) (λ c k. refl) (λ c k. refl) (chosen_format total) (kept_format total)

pub is_object : (o : Object) → ObjectFits o → IsObject o
is_object o h = record { regs = h.0.1.1; source = h.1.0; outs = h.1.1 }

pub object_fits : (o : Object) → IsObject o → ObjectFits o
object_fits o h = ((tt, (tt, h.regs)), (h.source, h.outs))
