use Rattle.std.proofs.Common.{◌≡◌, ℕ, List, ◌++◌, length, ap, ◌∙◌}
use Rattle.image_file.specs.Spelling.{mark, number, places_said}
use Rattle.image_file.proofs.Written.{written}
use Rattle.image_file.proofs.writing.put_header.Goals as goal

pub returns : goal.returns
returns c =
    let i = c.args.image.now in
    let code : length c.as_slice.result.now ≡ length i.code = ap (λ (xs : List ℕ). length xs) c.as_slice.ensures in
    let constants : length c.as_slice-2.result.now ≡ length i.constants = ap (λ (xs : List ℕ). length xs) c.as_slice-2.ensures in
    c.in_ok-put_count.ensures
    ∙ ap (λ (xs : List ℕ). xs ++ places_said i.version i.places) (c.in_ok-put_number-6.ensures
    ∙ ap (λ (xs : List ℕ). xs ++ number i.frame) (c.in_ok-put_number-5.ensures ∙ ap (λ (n : ℕ). c.put_number-4.new.out.items ++ number n) constants
    ∙ ap (λ (xs : List ℕ). xs ++ number (length i.constants)) (c.in_ok-put_number-4.ensures
    ∙ ap (λ (xs : List ℕ). xs ++ number i.globals) (c.in_ok-put_number-3.ensures ∙ ap (λ (n : ℕ). c.put_number-2.new.out.items ++ number n) code
    ∙ ap (λ (xs : List ℕ). xs ++ number (length i.code)) (c.in_ok-put_number-2.ensures
    ∙ ap (λ (xs : List ℕ). xs ++ number i.flags) (c.in_ok-put_number.ensures
    ∙ ap (λ (xs : List ℕ). xs ++ number i.version) c.in_ok-extend_from_slice.ensures.items))))))
    ∙ written c.args.out.now.items mark (number i.version) (number i.flags) (number (length i.code)) (number i.globals) (number (length i.constants)) (number i.frame) (places_said i.version i.places)
