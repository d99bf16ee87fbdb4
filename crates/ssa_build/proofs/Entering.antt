-- The loops at a procedure's beginning, step by step.
use Rattle.std.proofs.Common.{◌≡◌, ℕ, suc, ◌+◌, ◌-◌, ◌<◌, ◌≤◌, List, [], ◌∷◌, map, drop, length, get_or, Bool, true, false, Some, if◌then◌else◌, sym, ap, ◌∙◌, arith}
use Rattle.std.proofs.lemmas.List.{drop_more}
use Rattle.std.proofs.Math.ListN.{drop_of_length-le}
use Rattle.block_runs.specs.declared.code.Code.TheVariants.{Arg, Const, Zero, Store, StoreByte}
use Rattle.block_runs.specs.declared.code.Code.TheVariants.{Local as LocalAt}
use Rattle.ob_types.specs.Layout.{kind_of}
use Rattle.ssa_lowered.specs.Values.{store}
use Rattle.ob_types.specs.Table.{Table}
use Rattle.ssa_lowered.specs.Data.{Layout, layout}
use Rattle.ssa_lowered.specs.Pieces.{give, skip, ◌>>=◌, emits, does}
use Rattle.ssa_lowered.specs.Variables.{further, zeroing, is_structured, first_value, store_first, stored, first_of, opened}
use Rattle.ssa_exprs.specs.Making.{View, Gives}
use Rattle.ssa_exprs.proofs.Giving.{gives_bind, gives_give, gives_as}
use Rattle.ssa_tables.specs.Local.{seen, site_of}
use Rattle.ssa_tables.specs.declared.locals.Variable.{Variable}

pub further_more : {v x w : View} {u : ℕ} (i words : ℕ) → i < words → Gives v x (emits (Arg i) []) u → Gives x w (further (i + 1) (words - (i + 1))) tt → Gives v w (further i (words - i)) tt
further_more i words lt g h =
    let e : words - i ≡ suc (words - (i + 1)) = omega (arith, lt) in
    let f : suc i ≡ i + 1 = omega arith in
    gives_as (ap (further i) e) (gives_bind (λ _. further (suc i) (words - (i + 1))) g (gives_as (ap (λ k. further k (words - (i + 1))) f) h))

pub further_end : (v : View) (i words : ℕ) → words ≤ i → Gives v v (further i (words - i)) tt
further_end v i words le = let e : words - i ≡ 0 = omega (arith, le) in gives_as (ap (further i) e) (gives_give v tt)

module _ (t : Table) (l : Layout) (bytes : ℕ) where
  pub stored_more : {b x w : View} (vs : List Variable) (i : ℕ) (d : Variable) → i < length vs → Gives b x (store_first t l bytes (seen (get_or vs i d)) (site_of (get_or vs i d).place)) tt
      → Gives x w (stored t l bytes (map seen (drop (i + 1) vs))) tt → Gives b w (stored t l bytes (map seen (drop i vs))) tt
  stored_more vs i d lt g h = gives_as (ap (λ ws. stored t l bytes (map seen ws)) (drop_more vs i d lt)) (gives_bind (λ _. stored t l bytes (map seen (drop (i + 1) vs))) g h)

  pub stored_end : (b : View) (vs : List Variable) (i : ℕ) → length vs ≤ i → Gives b b (stored t l bytes (map seen (drop i vs))) tt
  stored_end b vs i le = gives_as (ap (λ ws. stored t l bytes (map seen ws)) (drop_of_length-le vs le)) (gives_give b tt)

pub gives_zeroing : {v0 v1 v2 v3 : View} {a n : ℕ} (some : Bool) (bytes zeroed : ℕ) → some ≡ true → Gives v0 v1 (emits (LocalAt bytes) []) a → Gives v1 v2 (emits (Const zeroed) []) n → Gives v2 v3 (does Zero (a ∷ n ∷ [])) tt → Gives v0 v3 (zeroing some bytes zeroed) tt
gives_zeroing {a = a} some bytes zeroed is g h k =
    gives_as (ap (λ b. zeroing b bytes zeroed) is)
    (gives_bind (λ x. emits (Const zeroed) [] >>= λ y. does Zero (x ∷ y ∷ [])) g (gives_bind (λ y. does Zero (a ∷ y ∷ [])) h k))

pub gives_stored : {v0 v1 v2 v3 : View} {a u : ℕ} (t : Table) (bytes n : ℕ) (v : Variable) (small : Bool) → small ≡ (layout t).is_small (kind_of t v.type_number) → is_structured (kind_of t v.type_number) ≡ false → v.place ≡ Some n → Gives v0 v1 (emits (LocalAt (bytes - n)) []) a → Gives v1 v2 (first_value v.word) u
    → Gives v2 v3 (does (if small then StoreByte else Store) (a ∷ u ∷ [])) tt → Gives v0 v3 (store_first t (layout t) bytes (seen v) (site_of v.place)) tt
gives_stored {a = a} {u = u} t bytes n v small narrow single at g h k =
    gives_as (ap (λ o. store_first t (layout t) bytes (seen v) (site_of o)) at ∙ ap (λ b. if b then skip else (emits (LocalAt (bytes - n)) [] >>= λ x. first_value v.word >>= λ y. store ((layout t).is_small (kind_of t v.type_number)) x y)) single ∙ ap (λ s. emits (LocalAt (bytes - n)) [] >>= λ x. first_value v.word >>= λ y. store s x y) (sym narrow))
    (gives_bind (λ x. first_value v.word >>= λ y. store small x y) g (gives_bind (λ y. store small a y) h k))

pub opened_more : {b x w : View} {more : List ℕ} (vs : List Variable) (i : ℕ) (d : Variable) (u : ℕ) → i < length vs → Gives b x (first_of (get_or vs i d).word (site_of (get_or vs i d).place)) u
    → Gives x w (opened (map seen (drop (i + 1) vs))) more → Gives b w (opened (map seen (drop i vs))) (u ∷ more)
opened_more {w = w} {more = more} vs i d u lt g h =
    gives_as (ap (λ ws. opened (map seen ws)) (drop_more vs i d lt))
    (gives_bind (λ z. opened (map seen (drop (i + 1) vs)) >>= λ zs. give (z ∷ zs)) g (gives_bind (λ zs. give (u ∷ zs)) h (gives_give w (u ∷ more))))

pub opened_end : (b : View) (vs : List Variable) (i : ℕ) → length vs ≤ i → Gives b b (opened (map seen (drop i vs))) []
opened_end b vs i le = gives_as (ap (λ ws. opened (map seen ws)) (drop_of_length-le vs le)) (gives_give b [])
