use Rattle.std.proofs.Common.{sym, ◌∙◌, arith}
use Rattle.scene_seams.specs.Table.{seams_of}
use Rattle.own_words.specs.Faults.{sound_start, missing_found, shared_found, sound_more, none_found}
use Rattle.own_words.proofs.first_fault.Goals as goal

pub loop-k-init : goal.loop-k-init
loop-k-init c = sound_start _ _

pub returns-then-entry_missing : goal.returns-then-entry_missing
returns-then-entry_missing c =
    missing_found (omega arith) c.loop-k.invariant (sym (c.entry_missing.ensures (seams_of c.args.stands.now)) ∙ c.if-entry_missing.true)

pub entry_shared-requires : goal.entry_shared-requires
entry_shared-requires c = sym (c.entry_missing.ensures (seams_of c.args.stands.now)) ∙ c.if-entry_missing.false

pub returns-then-entry_shared : goal.returns-then-entry_shared
returns-then-entry_shared c =
    shared_found (omega arith) c.loop-k.invariant
    (sym (c.entry_missing.ensures (seams_of c.args.stands.now)) ∙ c.if-entry_missing.false)
    (sym c.entry_shared.ensures ∙ c.if-entry_shared.true)

pub loop-k-preserved : goal.loop-k-preserved
loop-k-preserved c =
    sound_more (omega arith) c.loop-k.invariant
    (sym (c.entry_missing.ensures (seams_of c.args.stands.now)) ∙ c.if-entry_missing.false)
    (sym c.entry_shared.ensures ∙ c.if-entry_shared.false)

pub returns : goal.returns
returns c = none_found (omega arith) c.loop-k.invariant
