use Rattle.std.proofs.Common.{◌≡◌, ℕ, ◌++◌, length, None, refl, subst, ◌∙◌}
use Rattle.image_file.specs.declared.rules.Header.{Header}
use Rattle.image_file.specs.Rules.{first_of, first_fault, header_rules, said_rules, end_rules, place_rules, said, first_place, Refuses}
use Rattle.image_file.proofs.Kept.{first_of_kept, passed_on, refuses_first, refuses_then}
use Rattle.image_file.proofs.rules.header_of.Goals as goal

pub returns-in_err-version_of-clause-broken : goal.returns-in_err-version_of-clause-broken
returns-in_err-version_of-clause-broken c = λ e is.
    let bytes = c.args.bytes.now in
    let h = said bytes in
    let fault = c.in_err-version_of.field-0.0 in
    let first = c.in_err-version_of.ensures.broken fault refl in
    let all = refuses_first fault (header_rules bytes ++ said_rules h ++ end_rules h (length bytes)) (place_rules bytes h.words (first_place h) 0 h.places)
    (refuses_first fault (header_rules bytes ++ said_rules h) (end_rules h (length bytes)) (refuses_first fault (header_rules bytes) (said_rules h) first)) in
    passed_on c.from_residual.result fault e (λ x. Refuses x (first_fault bytes)) c.from_residual.ensures.1 is all

pub returns-in_err-check_said-clause-broken : goal.returns-in_err-check_said-clause-broken
returns-in_err-check_said-clause-broken c = λ e is.
    let bytes = c.args.bytes.now in
    let h = said bytes in
    let fault = c.in_err-check_said.field-0.0 in
    let second = subst (λ (x : Header). Refuses fault (first_of (said_rules x))) c.said-header.ensures (c.in_err-check_said.ensures.broken fault refl) in
    let all = refuses_first fault (header_rules bytes ++ said_rules h ++ end_rules h (length bytes)) (place_rules bytes h.words (first_place h) 0 h.places)
    (refuses_first fault (header_rules bytes ++ said_rules h) (end_rules h (length bytes)) (refuses_then fault (header_rules bytes) (said_rules h) c.in_ok-version_of.ensures.kept second)) in
    passed_on c.from_residual-in_err-check_said.result fault e (λ x. Refuses x (first_fault bytes)) c.from_residual-in_err-check_said.ensures.1 is all

pub returns-in_err-check_end-clause-broken : goal.returns-in_err-check_end-clause-broken
returns-in_err-check_end-clause-broken c = λ e is.
    let bytes = c.args.bytes.now in
    let h = said bytes in
    let fault = c.in_err-check_end.field-0.0 in
    let kept = first_of_kept (header_rules bytes) (said_rules h) c.in_ok-version_of.ensures.kept ∙ subst (λ (x : Header). first_of (said_rules x) ≡ None) c.said-header.ensures c.in_ok-check_said.ensures.kept in
    let third = subst (λ (x : Header). Refuses fault (first_of (end_rules x (length bytes)))) c.said-header.ensures (c.in_err-check_end.ensures.broken fault refl) in
    let all = refuses_first fault (header_rules bytes ++ said_rules h ++ end_rules h (length bytes)) (place_rules bytes h.words (first_place h) 0 h.places)
    (refuses_then fault (header_rules bytes ++ said_rules h) (end_rules h (length bytes)) kept third) in
    passed_on c.from_residual-in_err-check_end.result fault e (λ x. Refuses x (first_fault bytes)) c.from_residual-in_err-check_end.ensures.1 is all

pub returns-in_err-check_places-clause-broken : goal.returns-in_err-check_places-clause-broken
returns-in_err-check_places-clause-broken c = λ e is.
    let bytes = c.args.bytes.now in
    let h = said bytes in
    let fault = c.in_err-check_places.field-0.0 in
    let kept = first_of_kept (header_rules bytes ++ said_rules h) (end_rules h (length bytes))
    (first_of_kept (header_rules bytes) (said_rules h) c.in_ok-version_of.ensures.kept ∙ subst (λ (x : Header). first_of (said_rules x) ≡ None) c.said-header.ensures c.in_ok-check_said.ensures.kept)
    ∙ subst (λ (x : Header). first_of (end_rules x (length bytes)) ≡ None) c.said-header.ensures c.in_ok-check_end.ensures.kept in
    let last = subst (λ (x : Header). Refuses fault (first_of (place_rules bytes x.words (first_place x) 0 x.places))) c.said-header.ensures
    (subst (λ (k : ℕ). Refuses fault (first_of (place_rules bytes c.said-header.result.words k 0 c.said-header.result.places))) c.first_place.ensures.is (c.in_err-check_places.ensures.broken fault refl)) in
    let all = refuses_then fault (header_rules bytes ++ said_rules h ++ end_rules h (length bytes)) (place_rules bytes h.words (first_place h) 0 h.places) kept last in
    passed_on c.from_residual-in_err-check_places.result fault e (λ x. Refuses x (first_fault bytes)) c.from_residual-in_err-check_places.ensures.1 is all

pub returns-clause-kept : goal.returns-clause-kept
returns-clause-kept c =
    let bytes = c.args.bytes.now in
    let h = said bytes in
    let kept = first_of_kept (header_rules bytes ++ said_rules h) (end_rules h (length bytes))
    (first_of_kept (header_rules bytes) (said_rules h) c.in_ok-version_of.ensures.kept ∙ subst (λ (x : Header). first_of (said_rules x) ≡ None) c.said-header.ensures c.in_ok-check_said.ensures.kept)
    ∙ subst (λ (x : Header). first_of (end_rules x (length bytes)) ≡ None) c.said-header.ensures c.in_ok-check_end.ensures.kept in
    let last = subst (λ (x : Header). first_of (place_rules bytes x.words (first_place x) 0 x.places) ≡ None) c.said-header.ensures
    (subst (λ (k : ℕ). first_of (place_rules bytes c.said-header.result.words k 0 c.said-header.result.places) ≡ None) c.first_place.ensures.is c.in_ok-check_places.ensures.kept) in
    first_of_kept (header_rules bytes ++ said_rules h ++ end_rules h (length bytes)) (place_rules bytes h.words (first_place h) 0 h.places) kept ∙ last
