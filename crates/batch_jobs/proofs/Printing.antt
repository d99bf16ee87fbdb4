-- One reply more.
use Rattle.std.proofs.Common.{◌≡◌, ◌<◌, ◌+◌, ℕ, zero, suc, List, [], ◌∷◌, ◌++◌, length, take, get_or, refl, sym, ap, ◌∙◌, arith, append_assoc}
use Rattle.std.proofs.lemmas.List.{take_more, append-nil}
use Rattle.batch_jobs.specs.Jobs.{Reply}
use Rattle.batch_jobs.specs.Replies.{reply_line, replies_from, replies_text}

replies-push : (sender n m : ℕ) (replies : List Reply) (reply : Reply) → m ≡ n + length replies
    → replies_from sender n (replies ++ reply ∷ []) ≡ replies_from sender n replies ++ (reply_line sender m reply ++ reply.written)
replies-push sender n m [] reply e =
    ap (λ l. reply_line sender n reply ++ l) (append-nil reply.written) ∙ ap (λ k. reply_line sender k reply ++ reply.written) (let f : n ≡ m = omega arith in f)
replies-push sender n m (r ∷ rs) reply e =
    ap (λ l. reply_line sender n r ++ (r.written ++ l)) (replies-push sender (n + 1) m rs reply (omega arith))
    ∙ (ap (λ l. reply_line sender n r ++ l) (sym (append_assoc r.written (replies_from sender (n + 1) rs) (reply_line sender m reply ++ reply.written)))
    ∙ sym (append_assoc (reply_line sender n r) (r.written ++ replies_from sender (n + 1) rs) (reply_line sender m reply ++ reply.written)))

length_taken : (xs : List Reply) (i : ℕ) → i < length xs → length (take i xs) ≡ i
length_taken xs zero small = refl
length_taken [] (suc i) small = absurd (omega arith)
length_taken (x ∷ xs) (suc i) small = ap suc (length_taken xs i (omega arith))

-- the text with one reply more
pub one_more_reply : (sender i : ℕ) (replies : List Reply) (reply : Reply) (before text after : List ℕ) → i < length replies → get_or replies i reply ≡ reply
    → text ≡ before ++ replies_text sender (take i replies) → after ≡ text ++ (reply_line sender i reply ++ reply.written) → after ≡ before ++ replies_text sender (take (i + 1) replies)
one_more_reply sender i replies reply before text after small at so_far more =
    let next : take (i + 1) replies ≡ take i replies ++ reply ∷ [] = take_more replies i reply small ∙ ap (λ r. take i replies ++ r ∷ []) at in
    let len : i ≡ 0 + length (take i replies) = omega (arith, length_taken replies i small) in
    more ∙ (ap (λ l. l ++ (reply_line sender i reply ++ reply.written)) so_far
    ∙ (append_assoc before (replies_text sender (take i replies)) (reply_line sender i reply ++ reply.written)
    ∙ ap (λ l. before ++ l) (sym (replies-push sender 0 i (take i replies) reply len) ∙ ap (replies_text sender) (sym next))))
