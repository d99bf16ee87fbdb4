-- The steps of a walk from a trace's end to its start.
use Rattle.std.specs.Prelude.{slice_set, ℕ, suc, ◌==◌, cond, List, [], ◌∷◌, ◌++◌, map, replicate, Option, Some, None, option_to_list}
use Rattle.block_runs.specs.Blocks.{Operation}
use Rattle.block_runs.specs.Live.{has}
use Rattle.block_runs.specs.declared.end.End.{End}
use Rattle.block_runs.specs.declared.end.End.TheVariants.{Jump, Branch, Nonzero, Return, Trap}
use Rattle.lir_core.specs.declared.flow.Flow.{Flow}
use Rattle.lir_core.specs.declared.places.Places.{Places}
use Rattle.lir_core.specs.declared.places.Line.{Line}
use Rattle.lir_core.specs.declared.places.Line.TheVariants.{Store, Load, Result}
use Rattle.lir_core.specs.declared.places.Line.TheVariants.{Lir as Does}
use Rattle.lir_core.specs.Spots.{get, in_register}
use Rattle.lir_core.specs.Walks.{without}
use Rattle.loc_state.specs.Registers.{register_of}
use Rattle.loc_state.specs.Homed.{inserted, all_inserted}
use Rattle.loc_state.specs.Lines.{place_of, call_lines}
use Rattle.loc_state.specs.Steps.{saved}
use Rattle.loc_back.specs.declared.part.Loading.{Loading}
use Rattle.loc_back.specs.declared.part.Stage.{Stage}
use Rattle.loc_back.specs.declared.part.Stage.TheVariants.{Behind, End as AtEnd, Operation as Within, Done}
use Rattle.loc_back.specs.declared.part.BackPart.{BackPart}
use Rattle.loc_back.specs.declared.backward.Backward.{Backward}
use Rattle.loc_back.specs.Marks.{starts_marked, ends_marked}

---- The lines of an operation

abbrev pub storing : Option ℕ → Option ℕ → List Line → List Line
storing (Some r) (Some d) lines = Store r d ∷ lines
storing _ _ lines = lines

abbrev pub loading : List Loading → List Line → List Line
loading [] lines = lines
loading (l ∷ ls) lines = Load l.reg l.value ∷ loading ls lines

-- an operation that is begun, the store of its definition
abbrev pub opening : Stage → List Line → List Line
opening (Within b) lines = Does b.index ∷ storing b.reg b.stored lines
opening _ lines = lines

-- the register that is named for its definition
abbrev pub names_of : Stage → List ℕ
names_of (Within b) = option_to_list b.reg
names_of _ = []

abbrev pub end_of : Stage → List (Option ℕ) → List (Option ℕ) → List (Option ℕ)
end_of AtEnd regs end = regs
end_of _ regs end = end

abbrev pub settled_stage : Stage → Stage
settled_stage Behind = Behind
settled_stage _ = Done

-- what was begun is written: an operation, the store of its definition and its loads, or the registers at an end
abbrev pub settled : BackPart → BackPart
settled t = record t {
  end = end_of t.stage t.regs t.end;
  lines = opening t.stage (loading t.loads t.lines);
  named = t.noted ++ (names_of t.stage ++ t.named);
  stage = settled_stage t.stage;
  noted = [];
  loads = [];
}

---- Uses

-- the next use's register is noted; a register that is given has the value before
abbrev pub taken : ℕ → Option ℕ → BackPart → BackPart
taken v None t = record t { noted = t.noted ++ register_of v t.regs ∷ [] }
taken v (Some r) t = record t { regs = slice_set t.regs r (Some v); noted = t.noted ++ r ∷ [] }

abbrev pub leaving : ℕ → Option ℕ → List Loading
leaving r None = []
leaving r (Some v) = record { reg = r; value = v } ∷ []

-- behind an operation a value that leaves its register is loaded again; at an end the edge does that
abbrev pub again : Stage → ℕ → Option ℕ → List Loading → List Loading
again (Within b) r o loads = loads ++ leaving r o
again _ r o loads = loads

-- a register's value is homed and leaves it
abbrev pub evicted : ℕ → BackPart → BackPart
evicted r t = record t { regs = slice_set t.regs r None; homed = saved (get t.regs r) t.homed; loads = again t.stage r (get t.regs r) t.loads }

---- Operations

-- a value other than the definition
abbrev pub other : Option ℕ → Option ℕ → Option ℕ
other None o = o
other (Some d) o = without d o

abbrev pub if_homed : List ℕ → ℕ → Option ℕ
if_homed homed d = cond (has homed d) (Some d) None

abbrev pub within : ℕ → Option ℕ → Option ℕ → Stage
within i reg stored = Within (record { index = i; reg = reg; stored = stored })

-- an operation is begun: its definition leaves its register, and so does another value, which is loaded again
abbrev pub begins : ℕ → Option ℕ → Option ℕ → BackPart → BackPart
begins i (Some d) (Some r) t = record t {
  regs = slice_set t.regs r None;
  homed = saved (other (Some d) (get t.regs r)) t.homed;
  loads = leaving r (other (Some d) (get t.regs r));
  stage = within i (Some r) (if_homed t.homed d);
}
begins i _ _ t = record t { stage = within i None None }

abbrev pub defined : ℕ → Option ℕ → Option ℕ → BackPart → BackPart
defined i def reg t = begins i def reg (settled t)

---- Calls

-- the result of a call is stored where it is homed, and goes from X0 to its register
abbrev pub result_stored : List ℕ → Option ℕ → List Line → List Line
result_stored homed None lines = lines
result_stored homed (Some d) lines = cond (has homed d) (Store 0 d ∷ lines) lines

abbrev pub result_in : List (Option ℕ) → ℕ → List Line → List Line
result_in regs d lines = cond (register_of d regs == 0) lines (Result (register_of d regs) ∷ lines)

abbrev pub result_moved : List (Option ℕ) → Option ℕ → List Line → List Line
result_moved regs None lines = lines
result_moved regs (Some d) lines = cond (in_register regs d) (result_in regs d lines) lines

-- then all other registers, the first of which is register r, are loaded, lowest first
abbrev pub reload : ℕ → Option ℕ → List Line → List Line
reload r None lines = lines
reload r (Some v) lines = Load r v ∷ lines

abbrev pub reloads : Option ℕ → ℕ → List (Option ℕ) → List Line → List Line
reloads def r [] lines = lines
reloads def r (o ∷ os) lines = reload r (other def o) (reloads def (suc r) os lines)

-- and are homed
abbrev pub all_saved : Option ℕ → List (Option ℕ) → List ℕ → List ℕ
all_saved def [] homed = homed
all_saved def (o ∷ os) homed = all_saved def os (saved (other def o) homed)

-- uses go to their registers, or are homed where they have none
abbrev pub seated : List ℕ → List (Option ℕ) → List (Option ℕ) → List (Option ℕ)
seated [] rs regs = regs
seated (u ∷ us) [] regs = regs
seated (u ∷ us) (None ∷ rs) regs = seated us rs regs
seated (u ∷ us) (Some r ∷ rs) regs = seated us rs (slice_set regs r (Some u))

abbrev pub unseated : List ℕ → List (Option ℕ) → List ℕ → List ℕ
unseated [] rs homed = homed
unseated (u ∷ us) [] homed = homed
unseated (u ∷ us) (None ∷ rs) homed = unseated us rs (inserted u homed)
unseated (u ∷ us) (Some r ∷ rs) homed = unseated us rs homed

abbrev pub behind_call : Option ℕ → BackPart → List Line
behind_call def t = result_stored t.homed def (result_moved t.regs def (reloads def 0 t.regs t.lines))

-- behind a call the lines that take its result and load the other registers
abbrev pub emptied : Option ℕ → BackPart → BackPart
emptied def t = record t { regs = map (λ x. None) t.regs; homed = all_saved def t.regs t.homed; lines = behind_call def t }

-- before it the registers and homes of its uses
abbrev pub reading : Operation → List (Option ℕ) → BackPart → BackPart
reading op args t = record t { regs = seated op.uses args t.regs; homed = unseated op.uses args t.homed }

-- its lines, from those places
abbrev pub written : ℕ → Operation → BackPart → BackPart
written i op t = record t { lines = call_lines (place_of t.regs) op ++ Does i ∷ t.lines }

abbrev pub called : ℕ → Operation → List (Option ℕ) → BackPart → BackPart
called i op args t = written i op (reading op args (emptied op.def (settled t)))

---- Nodes

-- what a jump passes on
abbrev pub passed : End → List ℕ
passed (Jump to args) = args
passed (Branch k a b one other) = []
passed (Nonzero a one other) = []
passed (Return a) = []
passed (Trap kind) = []

-- parameters leave their registers
abbrev pub no_param : List ℕ → Option ℕ → Option ℕ
no_param params None = None
no_param params (Some v) = cond (has params v) None (Some v)

-- a value that is in no register takes one that is given
abbrev pub seated_new : ℕ → Option ℕ → List (Option ℕ) → List (Option ℕ)
seated_new a None regs = regs
seated_new a (Some r) regs = cond (in_register regs a) regs (slice_set regs r (Some a))

abbrev pub seated_news : List ℕ → List (Option ℕ) → List (Option ℕ) → List (Option ℕ)
seated_news [] rs regs = regs
seated_news (a ∷ vs) [] regs = regs
seated_news (a ∷ vs) (r ∷ rs) regs = seated_news vs rs (seated_new a r regs)

abbrev pub bare : List (Option ℕ) → Places
bare regs = record { regs = regs; homed = [] }

-- the node that is walked joins the lists
abbrev pub ended : Stage → Backward → Backward
ended Behind f = f
ended _ f = record {
  starts = bare f.part.regs ∷ f.starts;
  ends = bare f.part.end ∷ f.ends;
  lines = f.part.lines ∷ f.lines;
  regs = f.part.named ∷ f.regs;
  part = record f.part { end = []; lines = []; named = [] };
}

-- a step in the node that is walked
abbrev pub in_part : (BackPart → BackPart) → Backward → Backward
in_part step f = record f { part = step f.part }

abbrev pub left_node : Backward → Backward
left_node f = ended f.part.stage (in_part settled f)

-- the end of the node before
abbrev pub entered : List ℕ → End → List (Option ℕ) → List ℕ → BackPart → BackPart
entered params end args homes t = record t {
  regs = seated_news (passed end) args (map (no_param params) t.regs);
  homed = all_inserted homes t.homed;
  stage = AtEnd;
}

abbrev pub before_node : List ℕ → End → List (Option ℕ) → List ℕ → Backward → Backward
before_node params end args homes f = in_part (entered params end args homes) (left_node f)

---- The trace

abbrev pub started : List ℕ → ℕ → Backward
started homed k = record {
  starts = [];
  ends = [];
  lines = [];
  regs = [];
  part = record { end = []; regs = replicate k None; homed = all_inserted homed []; lines = []; named = []; stage = Behind; noted = []; loads = [] };
}

abbrev pub with_homes : Flow → List (List ℕ) → List ℕ → Backward → Backward
with_homes flow rows ns f = record f { starts = starts_marked flow rows f.part.homed ns f.starts; ends = ends_marked flow rows f.part.homed ns f.ends }

-- the first node is left, and homes are marked
abbrev pub closed : Flow → List (List ℕ) → List ℕ → Backward → Backward
closed flow rows ns f = with_homes flow rows ns (left_node f)
