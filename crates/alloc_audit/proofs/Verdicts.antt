-- Results, one after the other.
use Rattle.std.proofs.Common.{◌≡◌, ℕ, zero, suc, ◌+◌, ◌<◌, ◌≤◌, Bool, true, false, List, [], ◌∷◌, map, length, drop, get_or, Option, Some, None, All, refl, sym, ap, subst, ◌∙◌, arith, drop-cons, add-one}
use Rattle.std.specs.List.{AllByRecursion}
use Rattle.std.proofs.lemmas.List.Elements.{recursion_from_All}
use Rattle.std.proofs.Math.Path.{fun_ext}
use Rattle.std.proofs.Math.ListN.{drop_of_length-le}
use Rattle.block_runs.specs.Blocks.{block_at}
use Rattle.lir_core.specs.declared.flow.Node.{Node}
use Rattle.lir_core.specs.declared.flow.Flow.{Flow}
use Rattle.lir_core.specs.declared.flow.Trace.{Trace}
use Rattle.lir_core.specs.declared.places.Places.{Places}
use Rattle.lir_core.specs.declared.places.Line.{Line}
use Rattle.lir_core.specs.declared.places.TraceOut.{TraceOut}
use Rattle.lir_core.specs.Flows.{code_node, code_nodes, IsValidFlow}
use Rattle.lir_core.specs.Rows.{has_bit}
use Rattle.global_live.specs.Reading.{HasLive}
use Rattle.alloc_audit.specs.declared.verdict.Failure.{Failure}
use Rattle.alloc_audit.specs.declared.verdict.Verdict.{Verdict}
use Rattle.alloc_audit.specs.declared.verdict.Verdict.TheVariants.{Sound, Unsound}
use Rattle.alloc_audit.specs.Nodes.{Grounds, node_failure}
use Rattle.alloc_audit.specs.Verdicts.{or_behind, nodes_failure, verdict_from, verdict_of, grounds_of_flows}
use Rattle.alloc_audit.specs.Results.{IsLive, AreLive, AreWalked}
use Rattle.alloc_audit.specs.Parts.{TellsAll, or_else, IsFailure, IsKnown, AreKnown}
use Rattle.alloc_audit.proofs.Looping.{at_front}
use Rattle.alloc_audit.proofs.Sounds.{all_walked}

pub block_is : (nodes : List Node) (i : ℕ) (x : Node) → i < length nodes → x ≡ get_or nodes i x → block_at (code_nodes nodes) i ≡ code_node x
block_is [] i x lt e = absurd (omega arith)
block_is (n ∷ ns) zero x lt e = ap code_node (sym e)
block_is (n ∷ ns) (suc i) x lt e = block_is ns i x (omega arith) e

---- Nodes

module _ (c : Grounds) (ns : List ℕ) (ss : List Places) (ls : List (List Line)) (gs : List (List ℕ)) (es : List Places) (i n : ℕ) (s : Places) (l : List Line) (g : List ℕ) (e : Places) (lt : i < length ns) (a : length ss ≡ length ns) (b : length ls ≡ length ns) (d : length gs ≡ length ns) (h : length es ≡ length ns) (ni : n ≡ get_or ns i n) (si : s ≡ get_or ss i s) (li : l ≡ get_or ls i l) (gi : g ≡ get_or gs i g) (ei : e ≡ get_or es i e) where
  pub nodes_at : nodes_failure c i (drop i ns) (drop i ss) (drop i ls) (drop i gs) (drop i es) ≡ or_behind i (node_failure c.room c.code c.live n s l g e) (nodes_failure c (i + 1) (drop (i + 1) ns) (drop (i + 1) ss) (drop (i + 1) ls) (drop (i + 1) gs) (drop (i + 1) es))
  nodes_at =
      ap (λ x. nodes_failure c i x (drop i ss) (drop i ls) (drop i gs) (drop i es)) (at_front ns i n lt ni)
      ∙ ap (λ x. nodes_failure c i (n ∷ drop (i + 1) ns) x (drop i ls) (drop i gs) (drop i es)) (at_front ss i s (omega arith) si)
      ∙ ap (λ x. nodes_failure c i (n ∷ drop (i + 1) ns) (s ∷ drop (i + 1) ss) x (drop i gs) (drop i es)) (at_front ls i l (omega arith) li)
      ∙ ap (λ x. nodes_failure c i (n ∷ drop (i + 1) ns) (s ∷ drop (i + 1) ss) (l ∷ drop (i + 1) ls) x (drop i es)) (at_front gs i g (omega arith) gi)
      ∙ ap (λ x. nodes_failure c i (n ∷ drop (i + 1) ns) (s ∷ drop (i + 1) ss) (l ∷ drop (i + 1) ls) (g ∷ drop (i + 1) gs) x) (at_front es i e (omega arith) ei)
      ∙ ap (λ j. or_behind i (node_failure c.room c.code c.live n s l g e) (nodes_failure c j (drop (i + 1) ns) (drop (i + 1) ss) (drop (i + 1) ls) (drop (i + 1) gs) (drop (i + 1) es))) (sym (add-one i))

  pub node_fails : (line : ℕ) (all : Option Failure) → Some line ≡ node_failure c.room c.code c.live n s l g e → nodes_failure c i (drop i ns) (drop i ss) (drop i ls) (drop i gs) (drop i es) ≡ all → Some (record { node = i; line = line }) ≡ all
  node_fails line all f q = ap (λ o. or_behind i o (nodes_failure c (i + 1) (drop (i + 1) ns) (drop (i + 1) ss) (drop (i + 1) ls) (drop (i + 1) gs) (drop (i + 1) es))) f ∙ sym nodes_at ∙ q

  pub node_passes : (all : Option Failure) → None ≡ node_failure c.room c.code c.live n s l g e → nodes_failure c i (drop i ns) (drop i ss) (drop i ls) (drop i gs) (drop i es) ≡ all
      → nodes_failure c (i + 1) (drop (i + 1) ns) (drop (i + 1) ss) (drop (i + 1) ls) (drop (i + 1) gs) (drop (i + 1) es) ≡ all
  node_passes all f q = ap (λ o. or_behind i o (nodes_failure c (i + 1) (drop (i + 1) ns) (drop (i + 1) ss) (drop (i + 1) ls) (drop (i + 1) gs) (drop (i + 1) es))) f ∙ sym nodes_at ∙ q

---- Rows of bits

same_tests : (a b : Bool) → (a ≡ true → b ≡ true) → (b ≡ true → a ≡ true) → a ≡ b
same_tests true b f g = sym (f refl)
same_tests false true f g = g refl
same_tests false false f g = refl

pub live_is : (f : Flow) (rows : List (List ℕ)) (live : ℕ → ℕ → Bool) → IsLive f live → HasLive f rows → has_bit rows ≡ live
live_is f rows live l h = fun_ext (λ n. fun_ext (λ v. same_tests (has_bit rows n v) (live n v) (λ e. l.whole n v (h.exact n v e)) (λ e. h.whole n v (l.exact n v e))))

---- Flows

pub record LiveAt (fs : List Flow) (lives : List (ℕ → ℕ → Bool)) (i : ℕ) (f : Flow) : Type 0 where
  pub live : ℕ → ℕ → Bool
  pub front : drop i lives ≡ live ∷ drop (i + 1) lives
  pub is : IsLive f live

live_at : (fs : List Flow) (lives : List (ℕ → ℕ → Bool)) (i : ℕ) (f : Flow) → i < length fs → f ≡ get_or fs i f → AreLive fs lives → LiveAt fs lives i f
live_at [] lives i f lt e h = absurd (omega arith)
live_at (x ∷ fs) [] i f lt e h = absurd h
live_at (x ∷ fs) (l ∷ lives) zero f lt e h = record { live = l; front = refl; is = subst (λ y. IsLive y l) (sym e) h.0 }
live_at (x ∷ fs) (l ∷ lives) (suc i) f lt e h =
    let r = live_at fs lives i f (omega arith) e h.1 in
    let j : suc (i + 1) ≡ suc i + 1 = omega arith in
    record { live = r.live; front = r.front ∙ ap (λ m. r.live ∷ drop m (l ∷ lives)) j; is = r.is }

pub item_of : {A : Type 0} {B : Type 0} (g : A → B) (xs : List A) (i : ℕ) (d : A) → d ≡ get_or xs i d → g d ≡ get_or (map g xs) i (g d)
item_of g [] i d e = refl
item_of g (x ∷ xs) zero d e = ap g e
item_of g (x ∷ xs) (suc i) d e = item_of g xs i d e

pub flow_audited : (k : ℕ) (fs : List Flow) (lives : List (ℕ → ℕ → Bool)) (cuts : List (List Trace)) (outs : List TraceOut) (i t : ℕ) (f : Flow) (ts : List Trace) (o : Option Verdict)
    → i < length fs → f ≡ get_or fs i f → i < length cuts → ts ≡ get_or cuts i ts → AreLive fs lives → ((live : ℕ → ℕ → Bool) → IsLive f live → TellsAll k f live t ts outs o)
    → verdict_from t (grounds_of_flows k (drop i fs) (drop i lives) (drop i cuts)) (drop t outs) ≡ or_else o (verdict_from (t + length ts) (grounds_of_flows k (drop (i + 1) fs) (drop (i + 1) lives) (drop (i + 1) cuts)) (drop (t + length ts) outs))
flow_audited k fs lives cuts outs i t f ts o lt fi lc ti al j =
    let r = live_at fs lives i f lt fi al in
    ap (λ x. verdict_from t (grounds_of_flows k x (drop i lives) (drop i cuts)) (drop t outs)) (at_front fs i f lt fi)
    ∙ ap (λ x. verdict_from t (grounds_of_flows k (f ∷ drop (i + 1) fs) x (drop i cuts)) (drop t outs)) r.front
    ∙ ap (λ x. verdict_from t (grounds_of_flows k (f ∷ drop (i + 1) fs) (r.live ∷ drop (i + 1) lives) x) (drop t outs)) (at_front cuts i ts lc ti)
    ∙ j r.live r.is (grounds_of_flows k (drop (i + 1) fs) (drop (i + 1) lives) (drop (i + 1) cuts))

pub none_audited : (k : ℕ) (fs : List Flow) (lives : List (ℕ → ℕ → Bool)) (cuts : List (List Trace)) (outs : List TraceOut) (i t : ℕ) → length fs ≤ i → t < length outs
    → verdict_from t (grounds_of_flows k (drop i fs) lives cuts) (drop t outs) ≡ Unsound t 0 0
none_audited k fs lives cuts [] i t le lt = absurd (omega arith)
none_audited k fs lives cuts (x ∷ outs) i t le lt =
    ap (λ y. verdict_from t (grounds_of_flows k y lives cuts) (drop t (x ∷ outs))) (drop_of_length-le fs le) ∙ ap (verdict_from t []) (drop-cons (x ∷ outs) t x lt)

pub all_audited : (k : ℕ) (fs : List Flow) (lives : List (ℕ → ℕ → Bool)) (cuts : List (List Trace)) (outs : List TraceOut) (i t : ℕ) → length fs ≤ i → length outs ≤ t
    → verdict_from t (grounds_of_flows k (drop i fs) lives cuts) (drop t outs) ≡ Sound
all_audited k fs lives cuts outs i t a b = ap (λ y. verdict_from t (grounds_of_flows k y lives cuts) (drop t outs)) (drop_of_length-le fs a) ∙ ap (verdict_from t []) (drop_of_length-le outs b)

---- What is known to be live

pub known_by : (f : Flow) (rows : List (List ℕ)) → (IsValidFlow f → HasLive f rows) → IsKnown f
known_by f rows h valid = let l = h valid in (has_bit rows, record { valid = valid; exact = l.exact; whole = l.whole })

pub known_more : (fs : List Flow) (i : ℕ) (f : Flow) → i < length fs → f ≡ get_or fs i f → AreKnown fs i → IsKnown f → AreKnown fs (i + 1)
known_more [] i f lt e h k = absurd (omega arith)
known_more (x ∷ fs) zero f lt e h k = (subst IsKnown e k, tt)
known_more (x ∷ fs) (suc i) f lt e h k = let n : suc (i + 1) ≡ suc i + 1 = omega arith in subst (AreKnown (x ∷ fs)) n (h.0, known_more fs i f (omega arith) e h.1 k)

lives_of : (fs : List Flow) (i : ℕ) → length fs ≤ i → AreKnown fs i → AllByRecursion IsValidFlow fs → (lives : List (ℕ → ℕ → Bool)) × AreLive fs lives
lives_of [] i le h valid = ([], tt)
lives_of (f ∷ fs) zero le h valid = absurd (omega arith)
lives_of (f ∷ fs) (suc i) le h valid =
    let l = h.0 valid.0 in
    let more = lives_of fs i (omega arith) h.1 valid.1 in
    (l.0 ∷ more.0, (l.1, more.1))

-- where what is live into all flows is known, the verdict `Sound` says that the walk accepts all results
pub sound_walked : (k : ℕ) (fs : List Flow) (cuts : List (List Trace)) (outs : List TraceOut) (i : ℕ) (v : Verdict) → length fs ≤ i → AreKnown fs i
    → ((lives : List (ℕ → ℕ → Bool)) → AreLive fs lives → v ≡ verdict_of k fs lives cuts outs) → All IsValidFlow fs → v ≡ Sound → AreWalked k 0 fs cuts outs
sound_walked k fs cuts outs i v le known is valid sound =
    let l = lives_of fs i le known (recursion_from_All IsValidFlow fs valid) in
    all_walked k fs l.0 cuts outs l.1 (sym (is l.0 l.1) ∙ sound)

pub not_sound : (o : Option Verdict) (v : Verdict) → o ≡ Some v → IsFailure o → v ≡ Sound → ⊥
not_sound None v e h s = cc
not_sound (Some Sound) v e h s = h
not_sound (Some (Unsound t n l)) v e h s = cc
