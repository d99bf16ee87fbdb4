-- The syntax of statements, from the parts that code takes out of them.
use Rattle.std.proofs.Common.{◌≡◌, ℕ, List, [], ◌∷◌, Vec, Global, Box, Option, Some, None, refl, sym, ap, ap₂, ◌∙◌}
use Rattle.ob_syntax.specs.Syntax as S
use Rattle.ob_syntax.specs.Plain.{plain_option, plain_by, plain_expression, plain_stats, plain_next_stats, plain_stat, plain_elsifs, plain_elsif_dos, plain_else, plain_case, plain_case_part, plain_next_cases}
use Rattle.ob_syntax.specs.declared.expressions.Expression.{Expression}
use Rattle.ob_syntax.specs.declared.statements.Stats.{Stats, out-Stats, roll-out-Stats, roll-Stats, rolls-Stats', Row_of-NextStat, end_of-NextStat, more_of-NextStat, items-the_row-NextStat, items_hidden-the_row-NextStat-2}
use Rattle.ob_syntax.specs.declared.statements.NextStat.{NextStat}
use Rattle.ob_syntax.specs.declared.statements.Stat.{Stat}
use Rattle.ob_syntax.specs.declared.statements.Stat.TheVariants as TheStat
use Rattle.ob_syntax.specs.declared.statements.IfStat.{IfStat, IfStat', out-IfStat, roll-out-IfStat, roll-IfStat, rolls-IfStat', Row_of-Elsif, end_of-Elsif, more_of-Elsif, items-the_row-Elsif, items_hidden-the_row-Elsif-1, back-IfStat-otherwise}
use Rattle.ob_syntax.specs.declared.statements.Elsif.{Elsif, Elsif', out-Elsif, roll-out-Elsif, roll-Elsif, rolls-Elsif'}
use Rattle.ob_syntax.specs.declared.statements.Else.{Else, Else', out-Else, roll-out-Else, roll-Else, rolls-Else'}
use Rattle.ob_syntax.specs.declared.statements.CaseStat.{CaseStat, CaseStat', out-CaseStat, roll-out-CaseStat, roll-CaseStat, rolls-CaseStat', Row_of-NextCase, end_of-NextCase, more_of-NextCase, items-the_row-NextCase, items_hidden-the_row-NextCase-0}
use Rattle.ob_syntax.specs.declared.statements.NextCase.{NextCase, NextCase', out-NextCase, roll-out-NextCase, roll-NextCase, rolls-NextCase'}
use Rattle.ob_syntax.specs.declared.statements.Case.{Case, out-Case, roll-out-Case, roll-Case, rolls-Case', back-Case-part}
use Rattle.ob_syntax.specs.declared.statements.CasePart.{CasePart, out-CasePart, roll-out-CasePart, roll-CasePart, rolls-CasePart'}
use Rattle.ob_syntax.specs.declared.statements.NextRange.{NextRange}
use Rattle.ob_syntax.specs.declared.statements.Range.{Range}
use Rattle.ob_syntax.specs.declared.statements.WhileStat.{WhileStat, WhileStat', out-WhileStat, roll-out-WhileStat, roll-WhileStat, rolls-WhileStat', Row_of-ElsifDo, end_of-ElsifDo, more_of-ElsifDo, items-the_row-ElsifDo, items_hidden-the_row-ElsifDo-3}
use Rattle.ob_syntax.specs.declared.statements.ElsifDo.{ElsifDo, ElsifDo', out-ElsifDo, roll-out-ElsifDo, roll-ElsifDo, rolls-ElsifDo'}
use Rattle.ob_syntax.specs.declared.statements.RepeatStat.{RepeatStat, RepeatStat', out-RepeatStat, roll-out-RepeatStat, roll-RepeatStat, rolls-RepeatStat'}
use Rattle.ob_syntax.specs.declared.statements.ForStat.{ForStat, ForStat', out-ForStat, roll-out-ForStat, roll-ForStat, rolls-ForStat'}
use Rattle.ob_syntax.specs.declared.statements.By.{By}
use Rattle.ob_syntax.specs.declared.statements.Stat.TheBlock.{hidden-the_row-NextStat-2, hidden-the_row-Elsif-1, hidden-the_row-NextCase-0, hidden-the_row-ElsifDo-3}
use Rattle.check_statements.specs.syntax.Lists.{plain_each_stat, plain_each_elsif, plain_each_elsif_do, plain_maybe_else, plain_each_case, plain_maybe_case, plain_if, plain_case_stat, plain_while, plain_repeat, plain_for}

-- ---- lists

stats_are : (m : _) (row : Row_of-NextStat m) → plain_next_stats row ≡ plain_each_stat (items-the_row-NextStat m row)
stats_are m end_of-NextStat = refl
stats_are m (more_of-NextStat i x rest) = ap (S.next_stat i (plain_stat x)) (stats_are _ rest)

stats_is : (first : Stat) (more : Vec NextStat Global) → plain_stats (roll-Stats (record { first = first; more = more })) ≡ S.stats (plain_stat first) (plain_each_stat more.items)
stats_is first more =
    ap (λ s. plain_stats s) (rolls-Stats' (record { first = first; more = more }))
    ∙ ap (S.stats (plain_stat first)) (stats_are _ (hidden-the_row-NextStat-2 more) ∙ ap (λ xs. plain_each_stat xs) (items_hidden-the_row-NextStat-2 more))

pub stats_parts : (x : Stats) → plain_stats x ≡ S.stats (plain_stat (out-Stats x).first) (plain_each_stat (out-Stats x).more.items)
stats_parts x = ap (λ s. plain_stats s) (sym (roll-out-Stats x)) ∙ stats_is (out-Stats x).first (out-Stats x).more

elsifs_are : (m : _) (row : Row_of-Elsif m) → plain_elsifs row ≡ plain_each_elsif (items-the_row-Elsif m row)
elsifs_are m end_of-Elsif = refl
elsifs_are m (more_of-Elsif (Elsif' i x j body) rest) = ap (S.next_elsif i (plain_expression x) j (plain_stats body)) (elsifs_are _ rest)

elsif_dos_are : (m : _) (row : Row_of-ElsifDo m) → plain_elsif_dos row ≡ plain_each_elsif_do (items-the_row-ElsifDo m row)
elsif_dos_are m end_of-ElsifDo = refl
elsif_dos_are m (more_of-ElsifDo (ElsifDo' i x j body) rest) = ap (S.next_elsif i (plain_expression x) j (plain_stats body)) (elsif_dos_are _ rest)

cases_are : (m : _) (row : Row_of-NextCase m) → plain_next_cases row ≡ plain_each_case (items-the_row-NextCase m row)
cases_are m end_of-NextCase = refl
cases_are m (more_of-NextCase (NextCase' i x) rest) = ap (S.next_case i (plain_case x)) (cases_are _ rest)

elsif_is : (i : ℕ) (x : Expression) (j : ℕ) (body : Stats) (xs : List Elsif) → plain_each_elsif (roll-Elsif (record { elsif_word = i; guard = x; then_word = j; body = body }) ∷ xs) ≡ S.next_elsif i (plain_expression x) j (plain_stats body) (plain_each_elsif xs)
elsif_is i x j body xs = ap (λ e. plain_each_elsif (e ∷ xs)) (rolls-Elsif' (record { elsif_word = i; guard = x; then_word = j; body = body }))

pub elsif_parts : (x : Elsif) (xs : List Elsif) → plain_each_elsif (x ∷ xs) ≡ S.next_elsif (out-Elsif x).elsif_word (plain_expression (out-Elsif x).guard) (out-Elsif x).then_word (plain_stats (out-Elsif x).body) (plain_each_elsif xs)
elsif_parts x xs = ap (λ e. plain_each_elsif (e ∷ xs)) (sym (roll-out-Elsif x)) ∙ elsif_is (out-Elsif x).elsif_word (out-Elsif x).guard (out-Elsif x).then_word (out-Elsif x).body xs

elsif_do_is : (i : ℕ) (x : Expression) (j : ℕ) (body : Stats) (xs : List ElsifDo) → plain_each_elsif_do (roll-ElsifDo (record { elsif_word = i; guard = x; do_word = j; body = body }) ∷ xs) ≡ S.next_elsif i (plain_expression x) j (plain_stats body) (plain_each_elsif_do xs)
elsif_do_is i x j body xs = ap (λ e. plain_each_elsif_do (e ∷ xs)) (rolls-ElsifDo' (record { elsif_word = i; guard = x; do_word = j; body = body }))

pub elsif_do_parts : (x : ElsifDo) (xs : List ElsifDo) → plain_each_elsif_do (x ∷ xs) ≡ S.next_elsif (out-ElsifDo x).elsif_word (plain_expression (out-ElsifDo x).guard) (out-ElsifDo x).do_word (plain_stats (out-ElsifDo x).body) (plain_each_elsif_do xs)
elsif_do_parts x xs = ap (λ e. plain_each_elsif_do (e ∷ xs)) (sym (roll-out-ElsifDo x)) ∙ elsif_do_is (out-ElsifDo x).elsif_word (out-ElsifDo x).guard (out-ElsifDo x).do_word (out-ElsifDo x).body xs

next_case_is : (i : ℕ) (x : Case) (xs : List NextCase) → plain_each_case (roll-NextCase (record { bar = i; case = x }) ∷ xs) ≡ S.next_case i (plain_case x) (plain_each_case xs)
next_case_is i x xs = ap (λ e. plain_each_case (e ∷ xs)) (rolls-NextCase' (record { bar = i; case = x }))

pub next_case_parts : (x : NextCase) (xs : List NextCase) → plain_each_case (x ∷ xs) ≡ S.next_case (out-NextCase x).bar (plain_case (out-NextCase x).case) (plain_each_case xs)
next_case_parts x xs = ap (λ e. plain_each_case (e ∷ xs)) (sym (roll-out-NextCase x)) ∙ next_case_is (out-NextCase x).bar (out-NextCase x).case xs

-- ---- options

else_held : (o : Option Else) → plain_else (back-IfStat-otherwise o) ≡ plain_maybe_else o
else_held None = refl
else_held (Some (Else' i body)) = refl

else_is : (i : ℕ) (body : Stats) → plain_maybe_else (Some (roll-Else (record { else_word = i; body = body }))) ≡ S.otherwise i (plain_stats body)
else_is i body = ap (λ e. plain_maybe_else (Some e)) (rolls-Else' (record { else_word = i; body = body }))

pub else_parts : (x : Else) → plain_maybe_else (Some x) ≡ S.otherwise (out-Else x).else_word (plain_stats (out-Else x).body)
else_parts x = ap (λ e. plain_maybe_else (Some e)) (sym (roll-out-Else x)) ∙ else_is (out-Else x).else_word (out-Else x).body

case_is : (o : Option (Box CasePart Global)) → plain_case (roll-Case (record { part = o })) ≡ plain_maybe_case o
case_is None = ap (λ e. plain_case e) (rolls-Case' (record { part = None }))
case_is (Some x) = ap (λ e. plain_case e) (rolls-Case' (record { part = Some x }))

pub case_parts : (x : Case) → plain_case x ≡ plain_maybe_case (out-Case x).part
case_parts x = ap (λ e. plain_case e) (sym (roll-out-Case x)) ∙ case_is (out-Case x).part

case_part_is : (first : Range) (more : Vec NextRange Global) (i : ℕ) (body : Stats) → plain_case_part (roll-CasePart (record { first = first; more = more; colon = i; body = body })) ≡ S.one_case first more.items i (plain_stats body)
case_part_is first more i body = ap (λ e. plain_case_part e) (rolls-CasePart' (record { first = first; more = more; colon = i; body = body }))

pub case_part_parts : (x : CasePart) → plain_case_part x ≡ S.one_case (out-CasePart x).first (out-CasePart x).more.items (out-CasePart x).colon (plain_stats (out-CasePart x).body)
case_part_parts x = ap (λ e. plain_case_part e) (sym (roll-out-CasePart x)) ∙ case_part_is (out-CasePart x).first (out-CasePart x).more (out-CasePart x).colon (out-CasePart x).body

-- ---- statements

if_held : (h : _) (x : IfStat) → plain_stat (TheStat.If' h x) ≡ plain_if x
if_held h (IfStat' i x j body k more other l) = refl

if_is : (i : ℕ) (x : Expression) (j : ℕ) (body : Stats) (elsifs : Vec Elsif Global) (other : Option Else) (k : ℕ) →
    plain_if (roll-IfStat (record { if_word = i; guard = x; then_word = j; body = body; elsifs = elsifs; otherwise = other; end_word = k }))
    ≡ S.If i (plain_expression x) j (plain_stats body) (plain_each_elsif elsifs.items) (plain_maybe_else other) k
if_is i x j body elsifs other k =
    ap (λ e. plain_if e) (rolls-IfStat' (record { if_word = i; guard = x; then_word = j; body = body; elsifs = elsifs; otherwise = other; end_word = k }))
    ∙ ap₂ (λ a b. S.If i (plain_expression x) j (plain_stats body) a b k) (elsifs_are _ (hidden-the_row-Elsif-1 elsifs) ∙ ap (λ xs. plain_each_elsif xs) (items_hidden-the_row-Elsif-1 elsifs)) (else_held other)

pub if_parts : (b : Box IfStat Global) → plain_stat (TheStat.If b) ≡ S.If (out-IfStat b.value).if_word (plain_expression (out-IfStat b.value).guard) (out-IfStat b.value).then_word (plain_stats (out-IfStat b.value).body) (plain_each_elsif (out-IfStat b.value).elsifs.items) (plain_maybe_else (out-IfStat b.value).otherwise) (out-IfStat b.value).end_word
if_parts b = let o = out-IfStat b.value in if_held (record { ptr = b.ptr; alloc = b.alloc; value = tt }) b.value ∙ ap (λ e. plain_if e) (sym (roll-out-IfStat b.value)) ∙ if_is o.if_word o.guard o.then_word o.body o.elsifs o.otherwise o.end_word

case_held : (h : _) (x : CaseStat) → plain_stat (TheStat.Case' h x) ≡ plain_case_stat x
case_held h (CaseStat' i x j first k more l) = refl

case_stat_is : (i : ℕ) (x : Expression) (j : ℕ) (first : Case) (more : Vec NextCase Global) (k : ℕ) →
    plain_case_stat (roll-CaseStat (record { case_word = i; selector = x; of_word = j; first = first; more = more; end_word = k })) ≡ S.Case i (plain_expression x) j (plain_case first) (plain_each_case more.items) k
case_stat_is i x j first more k =
    ap (λ e. plain_case_stat e) (rolls-CaseStat' (record { case_word = i; selector = x; of_word = j; first = first; more = more; end_word = k }))
    ∙ ap (λ a. S.Case i (plain_expression x) j (plain_case first) a k) (cases_are _ (hidden-the_row-NextCase-0 more) ∙ ap (λ xs. plain_each_case xs) (items_hidden-the_row-NextCase-0 more))

pub case_stat_parts : (b : Box CaseStat Global) → plain_stat (TheStat.Case b) ≡ S.Case (out-CaseStat b.value).case_word (plain_expression (out-CaseStat b.value).selector) (out-CaseStat b.value).of_word (plain_case (out-CaseStat b.value).first) (plain_each_case (out-CaseStat b.value).more.items) (out-CaseStat b.value).end_word
case_stat_parts b = let o = out-CaseStat b.value in case_held (record { ptr = b.ptr; alloc = b.alloc; value = tt }) b.value ∙ ap (λ e. plain_case_stat e) (sym (roll-out-CaseStat b.value)) ∙ case_stat_is o.case_word o.selector o.of_word o.first o.more o.end_word

while_held : (h : _) (x : WhileStat) → plain_stat (TheStat.While' h x) ≡ plain_while x
while_held h (WhileStat' i x j body k more l) = refl

while_is : (i : ℕ) (x : Expression) (j : ℕ) (body : Stats) (elsifs : Vec ElsifDo Global) (k : ℕ) →
    plain_while (roll-WhileStat (record { while_word = i; guard = x; do_word = j; body = body; elsifs = elsifs; end_word = k })) ≡ S.While i (plain_expression x) j (plain_stats body) (plain_each_elsif_do elsifs.items) k
while_is i x j body elsifs k =
    ap (λ e. plain_while e) (rolls-WhileStat' (record { while_word = i; guard = x; do_word = j; body = body; elsifs = elsifs; end_word = k }))
    ∙ ap (λ a. S.While i (plain_expression x) j (plain_stats body) a k) (elsif_dos_are _ (hidden-the_row-ElsifDo-3 elsifs) ∙ ap (λ xs. plain_each_elsif_do xs) (items_hidden-the_row-ElsifDo-3 elsifs))

pub while_parts : (b : Box WhileStat Global) → plain_stat (TheStat.While b) ≡ S.While (out-WhileStat b.value).while_word (plain_expression (out-WhileStat b.value).guard) (out-WhileStat b.value).do_word (plain_stats (out-WhileStat b.value).body) (plain_each_elsif_do (out-WhileStat b.value).elsifs.items) (out-WhileStat b.value).end_word
while_parts b = let o = out-WhileStat b.value in while_held (record { ptr = b.ptr; alloc = b.alloc; value = tt }) b.value ∙ ap (λ e. plain_while e) (sym (roll-out-WhileStat b.value)) ∙ while_is o.while_word o.guard o.do_word o.body o.elsifs o.end_word

repeat_held : (h : _) (x : RepeatStat) → plain_stat (TheStat.Repeat' h x) ≡ plain_repeat x
repeat_held h (RepeatStat' i body j x) = refl

repeat_is : (i : ℕ) (body : Stats) (j : ℕ) (x : Expression) → plain_repeat (roll-RepeatStat (record { repeat_word = i; body = body; until_word = j; guard = x })) ≡ S.Repeat i (plain_stats body) j (plain_expression x)
repeat_is i body j x = ap (λ e. plain_repeat e) (rolls-RepeatStat' (record { repeat_word = i; body = body; until_word = j; guard = x }))

pub repeat_parts : (b : Box RepeatStat Global) → plain_stat (TheStat.Repeat b) ≡ S.Repeat (out-RepeatStat b.value).repeat_word (plain_stats (out-RepeatStat b.value).body) (out-RepeatStat b.value).until_word (plain_expression (out-RepeatStat b.value).guard)
repeat_parts b = let o = out-RepeatStat b.value in repeat_held (record { ptr = b.ptr; alloc = b.alloc; value = tt }) b.value ∙ ap (λ e. plain_repeat e) (sym (roll-out-RepeatStat b.value)) ∙ repeat_is o.repeat_word o.body o.until_word o.guard

for_held : (h : _) (x : ForStat) → plain_stat (TheStat.For' h x) ≡ plain_for x
for_held h (ForStat' i v j a k b step m body n) = refl

for_is : (i v j : ℕ) (a : Expression) (k : ℕ) (b : Expression) (by : Option By) (m : ℕ) (body : Stats) (n : ℕ) →
    plain_for (roll-ForStat (record { for_word = i; variable = v; becomes = j; from = a; to_word = k; to = b; by = by; do_word = m; body = body; end_word = n })) ≡ S.For i v j (plain_expression a) k (plain_expression b) (plain_option plain_by by) m (plain_stats body) n
for_is i v j a k b by m body n = ap (λ e. plain_for e) (rolls-ForStat' (record { for_word = i; variable = v; becomes = j; from = a; to_word = k; to = b; by = by; do_word = m; body = body; end_word = n }))

pub for_parts : (b : Box ForStat Global) → plain_stat (TheStat.For b) ≡ S.For (out-ForStat b.value).for_word (out-ForStat b.value).variable (out-ForStat b.value).becomes (plain_expression (out-ForStat b.value).from) (out-ForStat b.value).to_word (plain_expression (out-ForStat b.value).to) (plain_option plain_by (out-ForStat b.value).by) (out-ForStat b.value).do_word (plain_stats (out-ForStat b.value).body) (out-ForStat b.value).end_word
for_parts b = let o = out-ForStat b.value in for_held (record { ptr = b.ptr; alloc = b.alloc; value = tt }) b.value ∙ ap (λ e. plain_for e) (sym (roll-out-ForStat b.value)) ∙ for_is o.for_word o.variable o.becomes o.from o.to_word o.to o.by o.do_word o.body o.end_word
