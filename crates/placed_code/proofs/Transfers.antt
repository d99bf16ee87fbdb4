-- Entries, calls and returns are carried out by their words.
use Rattle.std.proofs.Common.{◌≡◌, ℕ, zero, suc, ◌+◌, ◌-◌, ◌*◌, ◌<◌, ◌≤◌, ◌^◌, ◌==◌, ◌&&◌, inl, inr, List, [], ◌∷◌, ◌++◌, length, Bool, true, false, refl, arith, sym, ap, ◌∙◌, subst, length-append}
use Rattle.std.specs.Prelude.{if◌then◌else◌, nat_lt}
use Rattle.std.proofs.lemmas.Bool.Decides.{nat_tests}
use Rattle.run_laws.specs.Runs.{Step, Moves, Traps, weigh}
use Rattle.run_laws.specs.Layers.{CarriesStep, places_from}
use Rattle.a64_memory.specs.Memory.{Area}
use Rattle.a64_machine.specs.State.{State, address_of, put, place_at}
use Rattle.a64_memory.specs.Areas.{frames_base, frames_bytes}
use Rattle.a64_machine.specs.Machine.{step_of, system_of}
use Rattle.lir_core.specs.Spots.{Spot}
use Rattle.placed_code.proofs.Steps.{enter}
use Rattle.placed_code.specs.Placed.{procedure, procedures, all_copied, Cell, Placed, proc_of, block_of}
use Rattle.block_runs.specs.States.{Frame, World, Stop, Kind, State as Flow, Runs, Point, Entry}
use Rattle.block_runs.specs.Steps.{first_values, taken}
use Rattle.placed_code.specs.Words.{slots_of, copies_words, prologue, depth_words, frame_words, local_words, jump_words, frame_of}
use Rattle.a64_machine.proofs.Steps.{StandAll, stand_append}
use Rattle.placed_code.proofs.Contents.{content, reg_content, copies_do}
use Rattle.a64_machine.proofs.Ways.{Way, way_append, way_is, Stops, stops_longer, stops_behind}
use Rattle.placed_code.proofs.Leading.{way_of, Here, jump_does}
use Rattle.placed_code.proofs.Entries.{Depth, Framed, depth_does, depth_traps, frame_does, local_does, local_traps}
use Rattle.placed_code.proofs.Relation.{Linked, Above, above_stays, Ready, Callers, counts, Entering, Running, Similar, words, callers_stay, callers_cells, callers_top}
use Rattle.a64_machine.proofs.Numbers.{Numbers}
use Rattle.block_runs.specs.Points.{least}
use Rattle.placed_code.specs.Claims.{same_trap}
use Rattle.a64_machine.specs.State as why

module _ (l : Linked) (Begins : (p b : ℕ) → (ℕ → ℕ) → (Spot → ℕ) → Type 0) (keeps_small : (a b : State) (w : List ℕ) → Numbers a → step_of l.code a ≡ Moves w b → Numbers b)
    (opens : (p b : ℕ) (V : ℕ → ℕ) (c : Spot → ℕ) → Begins p b V c → Ready l Begins p (block_of (proc_of l.procs p) b) b 0 (block_of (proc_of l.procs p) b).body V c) where
  abbrev pub Carry : Point → State → Step Flow Stop → Type 0
  Carry p a step = CarriesStep (system_of l.code) (least (procedures l.procs)) (λ q. 1) (words l Begins) (Similar l Begins keeps_small) (same_trap (length l.procs) l.entry l.size) p a step

  abbrev pub On : ℕ → ℕ → ℕ → World → Area → State → Type 0
  On low slots k w s a = Here l.code keeps_small l.frame low slots k w s a

  pub carry_way : (p : Point) (k n : ℕ) (a b : State) (t : Flow) → words l Begins p ≡ places_from k n → Way l.code k n a b → 0 < n → least (procedures l.procs) p ≤ 1 → Similar l Begins keeps_small t b → Carry p a (Moves [] t)
  carry_way p k n a b t e way some few sim =
      let z = way.some some in record {
        after = b;
        passed = way.places;
        walk = way.walk.walk;
        similar = sim;
        within = λ h. let x = way.within h in let f = ap (weigh h) e in omega (arith, x, f);
        enough = omega (arith, z, few);
      }

  pub carry_stops : (p : Point) (q k n kind place : ℕ) (a : State) → words l Begins p ≡ places_from k n → q < length l.procs → l.entry q ≤ k → k + n ≤ l.entry q + l.size q → Stops l.code k n a (why.Broke kind place) → Carry p a (Traps (Kind kind q))
  carry_stops p q k n kind place a e known from to s = (
    why.Broke kind place,
    (refl, known, let x = s.located.0 in omega (arith, from, x), let y = s.located.1 in omega (arith, to, y)),
    record {
      stop = s.after;
      passed = s.places;
      walk = s.walk.walk;
      halts = s.stops;
      within = λ h. let x = s.within h in let f = ap (weigh h) e in omega (arith, x, f);
    },
  )

  -- in the world of another body
  pub in_body : (low slots k body : ℕ) (w : World) (s : Area) (a : State) → On low slots k w s a → On low slots k (record w { body = body }) s a
  in_body low slots k body w s a at = record {
    pc = at.pc;
    sp = at.sp;
    memory = at.memory;
    fixed = record { calls = at.fixed.calls; cells = at.fixed.cells; local = at.fixed.local; globals = at.fixed.globals; next = at.fixed.next; free = at.fixed.free };
    input = at.input;
    small = at.small;
    space = at.space;
  }

  pub reshape : (low slots slots' k : ℕ) (w : World) (s : Area) (a : State) → low + 8 * slots' ≤ frames_base + frames_bytes l.frame → On low slots k w s a → On low slots' k w s a
  reshape low slots slots' k w s a top at = record { pc = at.pc; sp = at.sp; memory = at.memory; fixed = at.fixed; input = at.input; small = at.small; space = record { base = at.space.base; size = at.space.size; small = at.space.small; bottom = at.space.bottom; top = top } }

  pub place_low : (p b : ℕ) (V : ℕ → ℕ) (c : Spot → ℕ) → Ready l Begins p (block_of (proc_of l.procs p) b) b 0 (block_of (proc_of l.procs p) b).body V c → l.place p b 0 < 2 ^ 18
  place_low p b V c r = by_body (block_of (proc_of l.procs p) b).body r
    where
      by_body : (cells : List Cell) → Ready l Begins p (block_of (proc_of l.procs p) b) b 0 cells V c → l.place p b 0 < 2 ^ 18
      by_body [] r = r.low
      by_body (cell ∷ cells) r = r.low

  ---- Entry

  -- a frame more is within the bound
  room_taken : (b : Bool) (calls F low : ℕ) → (b && calls == 0) ≡ false → frames_base + (calls + (if b then 0 else 1)) * F ≤ low → frames_base + (calls - (if b then 1 else 0)) * F + F ≤ low
  room_taken true zero F low some room = cc
  room_taken true (suc c) F low some room =
      let e : (suc c + 0) * F ≡ c * F + F = omega arith in
      let d : suc c - 1 ≡ c = omega arith in
      let f = ap (λ n. n * F) d in
      omega (arith, e, f, room)
  room_taken false c F low some room =
      let e : (c + 1) * F ≡ c * F + F = omega arith in
      let d : c - 0 ≡ c = omega arith in
      let f = ap (λ n. n * F) d in
      omega (arith, e, f, room)

  again : (b : Bool) (calls : ℕ) → (b && calls == 0) ≡ false → calls ≡ calls - (if b then 1 else 0) + (if b then 1 else 0)
  again true zero some = cc
  again true (suc c) some = omega arith
  again false c some = omega arith

  module _ (p : ℕ) (args : List ℕ) (fs : List Frame) (w : World) (a : State) (e : Entering l Begins keeps_small p args fs w a) where
    abbrev pr : Placed
    pr = proc_of l.procs p

    abbrev k : ℕ
    k = l.entry p

    abbrev depth : ℕ
    depth = length (depth_words pr.counted)

    abbrev local : ℕ
    local = length (local_words pr.cells pr.bytes)

    abbrev copying : ℕ
    copying = length (copies_words pr pr.copies)

    front : length (prologue pr) ≡ depth + (3 + local)
    front = length-append (depth_words pr.counted) (frame_words (frame_of pr) pr.outs ++ local_words pr.cells pr.bytes) ∙ ap (λ (n : ℕ). depth + n) (length-append (frame_words (frame_of pr) pr.outs) (local_words pr.cells pr.bytes))

    abbrev jump_at : ℕ
    jump_at = k + (length (prologue pr) + copying)

    abbrev jumping : ℕ
    jumping = length (jump_words e.enterable.falls jump_at (l.place p 0 0))

    abbrev all : ℕ
    all = length (prologue pr) + (copying + jumping)

    words_are : words l Begins (Entry p) ≡ places_from k all
    words_are = ap (places_from k) e.enterable.width

    parts : StandAll l.code k (depth_words pr.counted ++ (frame_words (frame_of pr) pr.outs ++ local_words pr.cells pr.bytes)) × StandAll l.code (k + length (prologue pr)) (copies_words pr pr.copies ++ jump_words e.enterable.falls jump_at (l.place p 0 0))
    parts = stand_append l.code (prologue pr) (copies_words pr pr.copies ++ jump_words e.enterable.falls jump_at (l.place p 0 0)) k e.enterable.stands

    inner : StandAll l.code k (depth_words pr.counted) × StandAll l.code (k + depth) (frame_words (frame_of pr) pr.outs ++ local_words pr.cells pr.bytes)
    inner = stand_append l.code (depth_words pr.counted) (frame_words (frame_of pr) pr.outs ++ local_words pr.cells pr.bytes) k parts.0

    innermost : StandAll l.code (k + depth) (frame_words (frame_of pr) pr.outs) × StandAll l.code (k + depth + 3) (local_words pr.cells pr.bytes)
    innermost = stand_append l.code (frame_words (frame_of pr) pr.outs) (local_words pr.cells pr.bytes) (k + depth) inner.1

    behind : StandAll l.code (k + length (prologue pr)) (copies_words pr pr.copies) × StandAll l.code (k + length (prologue pr) + copying) (jump_words e.enterable.falls jump_at (l.place p 0 0))
    behind = stand_append l.code (copies_words pr pr.copies) (jump_words e.enterable.falls jump_at (l.place p 0 0)) (k + length (prologue pr)) parts.1

    module _ (some : (pr.counted && w.calls == 0) ≡ false) where
      abbrev w1 : World
      w1 = record w { calls = w.calls - (if pr.counted then 1 else 0) }

      abbrev low' : ℕ
      low' = e.low - 8 * slots_of pr

      first : Depth l.code keeps_small l.frame pr.counted e.low k w e.stack a
      first = depth_does l.code keeps_small l.frame pr.counted e.low k w e.stack a some inner.0 e.at

      room : frames_base + w1.calls * l.frame + l.frame ≤ e.low
      room = room_taken pr.counted w.calls l.frame e.low some e.room

      sum : low' + 8 * slots_of pr ≡ e.low
      sum = let r = room in let f = e.enterable.frame in omega (arith, r, f)

      high : e.low ≤ frames_base + frames_bytes l.frame
      high = callers_top l Begins w.body e.stack fs e.low w.calls w.cells e.ret e.callers

      second : Framed l.code keeps_small l.frame (slots_of pr) pr.outs e.low low' (k + depth) w1 e.stack first.after
      second = frame_does l.code keeps_small l.frame (slots_of pr) pr.outs e.low low' (k + depth) w1 e.stack first.after sum (omega arith) (let r = room in let f = e.enterable.frame in omega (arith, r, f)) high (let f = e.enterable.frame in let g = e.at.space.small in omega (arith, f, g)) innermost.0 first.at

      -- trap 9
      pub no_local : nat_lt w.cells pr.cells ≡ true → Carry (Entry p) a (Traps (Kind 9 p))
      no_local less =
          let t = local_traps l.code keeps_small l.frame pr.cells pr.bytes low' (slots_of pr) (k + depth + 3) w1 second.stack second.after e.enterable.cells less innermost.1 second.at in
          let mine = why.Broke 9 t.0 in
          let stop : Stops l.code k (depth + (3 + local)) a mine = stops_behind l.code k depth (3 + local) a first.after mine first.way (stops_behind l.code (k + depth) 3 local first.after second.after mine second.way t.1) in
          carry_stops (Entry p) p k all 9 t.0 a words_are e.enterable.known (omega arith) (let i = e.enterable.inside in let j = e.enterable.width in omega (arith, i, j)) (stops_longer l.code k (length (prologue pr)) (copying + jumping) a mine (subst (λ n. Stops l.code k n a mine) (sym front) stop))

      -- the body begins
      pub enters : nat_lt w.cells pr.cells ≡ false → Carry (Entry p) a (Moves [] (Runs (record { proc = p; block = 0; at = 0; values = first_values (procedure pr) args; args = args }) fs (taken (procedure pr) w)))
      enters enough =
          let few = callers_cells l Begins w.body e.stack fs e.low w.calls w.cells e.ret e.callers in
          let third = local_does l.code keeps_small l.frame pr.cells pr.bytes low' (slots_of pr) (k + depth + 3) w1 second.stack second.after e.enterable.cells enough innermost.1 second.at in
          let w2 = taken (procedure pr) w in
          let k3 : k + depth + 3 + local ≡ k + length (prologue pr) = (let f = front in omega (arith, f)) in
          let fourth = copies_do pr e.enterable.fits l.code keeps_small l.frame low' w2 pr.copies (k + length (prologue pr)) second.stack third.after e.enterable.named behind.0 (subst (λ n. On low' (slots_of pr) n w2 second.stack third.after) k3 third.at) in
          let begins = e.enterable.begins args (content pr second.stack low' third.after.registers) e.enough (λ i l m. reg_content pr second.stack low' third.after.registers i (omega (arith, l)) ∙ third.args i (omega (arith, l)) ∙ second.args i (omega (arith, l)) ∙ first.args i (omega (arith, l)) ∙ e.given i l m) in
          let k4 : k + length (prologue pr) + copying ≡ jump_at = omega arith in
          let same_content : content pr fourth.stack low' fourth.after.registers ≡ all_copied pr.copies (content pr second.stack low' third.after.registers) = λ i q. fourth.is q i in
          let begins' = subst (λ (c : Spot → ℕ). Begins p 0 (first_values (procedure pr) args) c) (sym same_content) begins in
          let ready = opens p 0 (first_values (procedure pr) args) (content pr fourth.stack low' fourth.after.registers) begins' in
          let fifth = jump_does l.code keeps_small l.frame e.enterable.falls low' (slots_of pr) jump_at (l.place p 0 0) w2 fourth.stack fourth.after (place_low p 0 (first_values (procedure pr) args) (content pr fourth.stack low' fourth.after.registers) ready) e.enterable.first (subst (λ n. StandAll l.code n (jump_words e.enterable.falls jump_at (l.place p 0 0))) k4 behind.1) (subst (λ n. On low' (slots_of pr) n w2 fourth.stack fourth.after) k4 fourth.passed.at) in
          let way_12 : Way l.code k (depth + (3 + local)) a third.after = way_append l.code k depth (3 + local) a first.after third.after first.way (way_append l.code (k + depth) 3 local first.after second.after third.after second.way third.way) in
          let way_3 : Way l.code k (length (prologue pr)) a third.after = way_is l.code k (depth + (3 + local)) (length (prologue pr)) a third.after (sym front) way_12 in
          let way_4 : Way l.code (k + length (prologue pr)) copying third.after fourth.after = way_of l.code keeps_small l.frame low' (slots_of pr) (k + length (prologue pr)) copying w2 fourth.stack third.after fourth.after fourth.passed in
          let way_5 : Way l.code (k + length (prologue pr) + copying) jumping fourth.after fifth.after = subst (λ n. Way l.code n jumping fourth.after fifth.after) (sym k4) fifth.way in
          let way : Way l.code k all a fifth.after = way_append l.code k (length (prologue pr)) (copying + jumping) a third.after fifth.after way_3 (way_append l.code (k + length (prologue pr)) copying jumping third.after fourth.after fifth.after way_4 way_5) in
          let running : Running l Begins keeps_small (record { proc = p; block = 0; at = 0; values = first_values (procedure pr) args; args = args }) fs w2 fifth.after = record {
            stack = fourth.stack;
            low = low';
            ret = e.ret;
            at = fifth.at;
            fits = e.enterable.fits;
            frame = e.enterable.frame;
            cells = e.enterable.cells;
            ready = subst (λ (r : ℕ → ℕ). Ready l Begins p (block_of pr 0) 0 0 (block_of pr 0).body (first_values (procedure pr) args) (content pr fourth.stack low' r)) (sym fifth.registers) ready;
            link = fourth.outside (low' + 8 * pr.outs) (inl refl) ∙ second.link ∙ first.link ∙ e.link;
            near = e.near;
            callers =
                subst (λ (n : ℕ). Callers l Begins w.body fourth.stack n (w2.calls + counts l Begins pr) (w2.cells + pr.cells) e.ret fs) (sym sum)
                (subst (λ (n : ℕ). Callers l Begins w.body fourth.stack e.low n (w2.cells + pr.cells) e.ret fs) (again pr.counted w.calls some)
                (subst (λ (n : ℕ). Callers l Begins w.body fourth.stack e.low w.calls n e.ret fs) (let g : pr.cells ≤ w.cells = grind (arith, nat_tests, enough) in omega (arith, g))
                (callers_stay l Begins w.body e.stack fourth.stack fs e.low w.calls w.cells e.ret (λ q le. fourth.outside q (inr (let s' = sum in omega (arith, s', le))) ∙ second.outside q (let s' = sum in omega (arith, s', le))) e.callers)));
            above = subst (λ (n : ℕ). Above l.frame fourth.stack n args) (sym sum) (above_stays l.frame e.stack fourth.stack e.low args (λ q le. fourth.outside q (inr (let s' = sum in omega (arith, s', le))) ∙ second.outside q (let s' = sum in omega (arith, s', le))) e.above);
            room = let r = room in let f = e.enterable.frame in omega (arith, r, f);
            standing = e.standing;
          } in
          carry_way (Entry p) k all a fifth.after (Runs (record { proc = p; block = 0; at = 0; values = first_values (procedure pr) args; args = args }) fs w2) words_are way (let f = front in omega (arith, f)) (omega arith) running

    by_cells : (some : (pr.counted && w.calls == 0) ≡ false) (b : Bool) → nat_lt w.cells pr.cells ≡ b
        → Carry (Entry p) a (if b then Traps (Kind 9 p) else Moves [] (Runs (record { proc = p; block = 0; at = 0; values = first_values (procedure pr) args; args = args }) fs (taken (procedure pr) w)))
    by_cells some true less = no_local some less
    by_cells some false enough = enters some enough

    no_depth : (b : Bool) → pr.counted ≡ b → (b && w.calls == 0) ≡ true → Carry (Entry p) a (Traps (Kind 8 p))
    no_depth false c none = cc
    no_depth true c none =
        let st = subst (λ b. StandAll l.code k (depth_words b)) c inner.0 in
        let d : 3 ≡ depth = sym (ap (λ b. length (depth_words b)) c) in
        let mine = why.Broke 8 (suc k) in
        let stop = depth_traps l.code keeps_small l.frame e.low k w e.stack a none st e.at in
        let more : 3 + (local + 3 + (copying + jumping)) ≡ all = (let f = front in omega (arith, f, d)) in
        carry_stops (Entry p) p k all 8 (suc k) a words_are e.enterable.known (omega arith) (let i = e.enterable.inside in let j = e.enterable.width in omega (arith, i, j)) (subst (λ n. Stops l.code k n a mine) more (stops_longer l.code k 3 (local + 3 + (copying + jumping)) a mine stop))

    by_depth : (b : Bool) → (pr.counted && w.calls == 0) ≡ b
        → Carry (Entry p) a (if b then Traps (Kind 8 p) else (if nat_lt w.cells pr.cells then Traps (Kind 9 p) else Moves [] (Runs (record { proc = p; block = 0; at = 0; values = first_values (procedure pr) args; args = args }) fs (taken (procedure pr) w))))
    by_depth true none = no_depth pr.counted refl none
    by_depth false some = by_cells some (nat_lt w.cells pr.cells) refl

    pub entry_carries : Carry (Entry p) a (enter l.procs p args fs w)
    entry_carries = by_depth (pr.counted && w.calls == 0) refl
