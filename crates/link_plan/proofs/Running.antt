-- The image is the defined one, and runs as the flows mean.
use Rattle.std.proofs.Common.{◌≡◌, ℕ, suc, ◌+◌, ◌<◌, ◌≤◌, ◌^◌, List, [], ◌∷◌, ◌++◌, map, length, get_or, true, refl, arith, sym, ap, ap₂, ◌∙◌, subst}
use Rattle.std.specs.Prelude.{Result, Ok, Err, IfErr, max}
use Rattle.std.specs.List.{list_all}
use Rattle.run_laws.specs.Layers.{whole_width}
use Rattle.a64_memory.specs.Memory.{AreBytes}
use Rattle.image_form.specs.declared.image.Image.{Image}
use Rattle.image_form.specs.declared.image.ProcPlace.{ProcPlace}
use Rattle.image_form.specs.Form.{IsInForm}
use Rattle.lir_core.specs.declared.flow.Flow.{Flow}
use Rattle.lir_core.specs.declared.places.TraceOut.{TraceOut}
use Rattle.boundary_resolve.specs.declared.code_line.CodeLine.{CodeLine}
use Rattle.placed_code.specs.declared.data.ImageData.{ImageData}
use Rattle.placed_code.specs.Placed.{Placed}
use Rattle.placed_code.specs.Words.{frame_of, most_frame}
use Rattle.placed_code.specs.Layout.{proc_width, all_words, code_of, entry}
use Rattle.placed_code.specs.Claims.{places_of, version_of}
use Rattle.placed_code.specs.Results.{all_placed}
use Rattle.placed_code.proofs.Linking.{all_size}
use Rattle.linked_flows.specs.Allocations.{Cut, steps_of, all_allocated, AreReady}
use Rattle.linked_flows.proofs.Run.{runs}
use Rattle.link_blocks.specs.Fits.{numbers_fit}
use Rattle.procedure_pieces.specs.Pieces.{Piece, piece_of}
use Rattle.procedure_pieces.specs.Linked.{piece_width, begins}
use Rattle.procedure_pieces.specs.Linked.{linked as linked_pieces}
use Rattle.procedure_pieces.proofs.Ordered.{piece_size}
use Rattle.procedure_pieces.proofs.Linking.{from_same, begins_same, is_linked}
use Rattle.procedure_code.proofs.Images.{linked_size}
use Rattle.link_plan.specs.Linked.{AreCuts, ArePieces, greatest_frame, greatest_in, linked, pieces_of, Runs}
use Rattle.link_plan.proofs.Forms.{made}
use Rattle.link_plan.proofs.InTable.{all_in_table}
use Rattle.link_plan.proofs.Low.{is_ready}
use Rattle.link_plan.proofs.Cuts.{frames_fit, all_low}

widths_same : (j : ℕ) (ps : List Placed) → whole_width piece_width j (map piece_of ps) ≡ whole_width proc_width j ps
widths_same j [] = refl
widths_same j (p ∷ ps) = ap₂ (λ m n. m + n) (piece_size j p) (widths_same (suc j) ps)

-- as many words as the procedures have
long_same : (ps : List Placed) → length (linked_pieces (map piece_of ps)) ≡ length (all_words ps)
long_same ps =
    let a = linked_size (map piece_of ps) in let b = all_size ps in
    let c = from_same ps in let d = widths_same 0 ps in
    omega (arith, a, b, c, d)

frames_same : (ps : List Placed) → greatest_in (map piece_of ps) ≡ greatest_frame ps
frames_same [] = refl
frames_same (p ∷ ps) = ap (λ m. max (frame_of p) m) (frames_same ps)

module _ (k : ℕ) (pieces : List Piece) (cuts : List Cut) (are : ArePieces k pieces cuts) where
  abbrev ps : List Placed
  ps = all_placed steps_of (all_allocated cuts)

  code_is : (code : List ℕ) → code ≡ linked_pieces pieces → length (linked_pieces pieces) ≤ 2 ^ 18 → code ≡ code_of ps
  code_is code c few =
      let long = ap (λ (qs : List Piece). length (linked_pieces qs)) are.pieces_are ∙ long_same ps in
      let size = all_size ps in
      c ∙ ap linked_pieces are.pieces_are ∙ sym (is_linked ps (omega (arith, long, size, few)))

  pub frame_is : (frame : ℕ) → frame ≡ greatest_in pieces → frame ≡ greatest_frame ps
  frame_is frame f = f ∙ ap greatest_in are.pieces_are ∙ frames_same ps

  pub over_is : 2 ^ 18 < length (linked_pieces pieces) → 2 ^ 18 < length (all_words ps)
  over_is l = let long = ap (λ (qs : List Piece). length (linked_pieces qs)) are.pieces_are ∙ long_same ps in omega (arith, l, long)

  pub image_runs : (image : Image) (extra : ImageData) (input : List ℕ) → image ≡ linked cuts extra → IsInForm image → image.frame ≤ most_frame → AreBytes extra.constants → ((i : ℕ) → get_or input i 0 < 2 ^ 64)
      → Runs image cuts extra input
  image_runs image extra input is form small bytes low =
      let frame = greatest_frame ps in
      let fits : frame ≤ most_frame = subst (λ (x : Image). x.frame ≤ most_frame) is small in
      let ready : AreReady k frame cuts = λ q c rest d. is_ready k are.few c (are.each q c rest d) frame (frames_fit cuts q c rest d) in
      let table = all_in_table ps (all_low k are.few cuts are.each are.numbers fits) in
      subst (λ (x : Image). Runs x cuts extra input) (sym is)
      (runs k frame cuts extra input are.few ready (record { form = subst IsInForm is form; bytes = bytes; in_table = table }) low)

  entries_are : begins pieces ≡ entry ps
  entries_are = ap begins are.pieces_are ∙ begins_same ps

  pub image_is : (extra : ImageData) (version : ℕ) (code : List ℕ) (frame : ℕ) (places : List ProcPlace) → code ≡ linked_pieces pieces → length (linked_pieces pieces) ≤ 2 ^ 18 → frame ≡ greatest_in pieces → version ≡ version_of extra.names
      → places ≡ places_of (begins pieces) 0 extra.names → made extra version code frame places ≡ linked cuts extra
  image_is extra version code frame places c few f v p =
      ap₂ (λ (ws : List ℕ) (n : ℕ). made extra version ws n places) (code_is code c few) (frame_is frame f)
      ∙ ap₂ (λ (n : ℕ) (xs : List ProcPlace). made extra n (code_of ps) (greatest_frame ps) xs) v (p ∙ ap (λ (e : ℕ → ℕ). places_of e 0 extra.names) entries_are)

-- the pieces that are added to none are those of the cuts
pub are_pieces : (k : ℕ) (flows : List Flow) (parts : List (List CodeLine)) (outs : List (List TraceOut)) (pieces before : List Piece) (cuts : List Cut) → AreCuts k flows parts outs cuts → before ≡ [] → pieces ≡ before ++ pieces_of cuts → list_all (λ f. numbers_fit f) flows ≡ true → ArePieces k pieces cuts
are_pieces k flows parts outs pieces before cuts are none added numbers = record {
  pieces_are = added ∙ ap (λ (qs : List Piece). qs ++ pieces_of cuts) none;
  numbers = sym (ap (λ (fs : List Flow). list_all (λ f. numbers_fit f) fs) are.flows_are) ∙ numbers;
  few = are.few;
  each = are.each;
}

-- what holds of the fault, if there is one
pub on_err : {A E : Type 0} (before after : E → Type 0) (r : Result A E) → IfErr r before → ((fault : E) → before fault → after fault) → IfErr r after
on_err before after (Ok x) h f = h
on_err before after (Err fault) h f = f fault h
