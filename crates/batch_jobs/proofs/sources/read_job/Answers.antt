use Rattle.std.proofs.Common.{◌≡◌, ◌+◌, length, length-append, ap, refl, sym, subst, take, ◌∙◌, arith}
use Rattle.batch_jobs.specs.Sources.{AreSources, bytes_of}
use Rattle.batch_jobs.proofs.Reading.{plain_names, none_found, source_found, read_further, too_many, ends, whole, counted_more, over}
use Rattle.batch_jobs.proofs.sources.read_job.Goals as goal

pub returns-then-names-gt-MOST_MODULES-clause-job : goal.returns-then-names-gt-MOST_MODULES-clause-job
returns-then-names-gt-MOST_MODULES-clause-job g c = too_many _ c.args.names.now _ _ c.if-names-gt-MOST_MODULES.true c.requires refl

pub returns-in-Nothing-clause-job : goal.returns-in-Nothing-clause-job
returns-in-Nothing-clause-job g c =
    let inv = c.loop-place.invariant in
    ends _ c.args.names.now c.loop-place.place c.index-names-place.result c.loop-place.texts.items c.in-Nothing.status _ _ _
    c.loop-place-test.true c.index-names-place.is inv.few inv.are (none_found _ _ _ _ _ _ inv.stays c.as_slice.ensures.value c.in-Nothing.is c.in_ok-status.ensures.found) inv.counted inv.within refl

pub returns-then-read-gt-MOST_JOB_BYTES-clause-fault : goal.returns-then-read-gt-MOST_JOB_BYTES-clause-fault
returns-then-read-gt-MOST_JOB_BYTES-clause-fault g c =
    let inv = c.loop-place.invariant in
    over _ c.args.names.now c.loop-place.place c.index-names-place.result c.loop-place.texts.items c.in-Source.text _ c.loop-place.read (c.loop-place.read + c.len.result) _ _
    c.loop-place-test.true c.index-names-place.is inv.few inv.are (source_found _ _ _ _ _ _ inv.stays c.as_slice.ensures.value c.in-Source.is c.in_ok-status.ensures.found) inv.counted
    (ap (λ n. c.loop-place.read + n) c.len.ensures) c.if-read-gt-MOST_JOB_BYTES.true

pub loop-place-preserved : goal.loop-place-preserved
loop-place-preserved g c =
    let inv = c.loop-place.invariant in
    let held = g.F.Files.held c.args.files.now in
    let more : c.loop-place.read + c.len.result ≡ c.args.read.now + bytes_of c.push.new.self.items =
    counted_more c.args.read.now c.loop-place.read (c.loop-place.read + c.len.result) c.loop-place.texts.items c.in-Source.text inv.counted (ap (λ n. c.loop-place.read + n) c.len.ensures) ∙ ap (λ ts. c.args.read.now + bytes_of ts) (sym c.in-Ok.ensures.items) in
    record {
      end = refl;
      few = inv.few;
      stays = c.in_ok-status.ensures.stays ∙ inv.stays;
      rises = omega (arith, inv.rises, c.in_ok-status.ensures.rises);
      as_many = let i = inv.as_many in simp length-append at (ap length c.in-Ok.ensures.items) ∙ ap (λ n. n + 1) i;
      are = subst (AreSources held (take (c.loop-place.place + 1) (plain_names c.args.names.now))) (sym c.in-Ok.ensures.items)
          (read_further held c.args.names.now c.loop-place.place c.index-names-place.result c.loop-place.texts.items c.in-Source.text c.loop-place-test.true c.index-names-place.is inv.are
          (source_found _ _ _ _ _ _ inv.stays c.as_slice.ensures.value c.in-Source.is c.in_ok-status.ensures.found));
      counted = more;
      within = omega (arith, c.if-read-gt-MOST_JOB_BYTES.false);
    }

pub returns-clause-job : goal.returns-clause-job
returns-clause-job g c =
    let inv = c.loop-place.invariant in
    whole _ c.args.names.now c.loop-place.place c.loop-place.texts.items _ _ _ c.loop-place-test.false inv.few inv.are inv.counted inv.within refl
