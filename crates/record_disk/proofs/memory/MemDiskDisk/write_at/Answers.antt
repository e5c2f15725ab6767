use Rattle.std.proofs.Common.{◌≡◌, ◌≤◌, ◌∙◌, length, take, sym, ap, arith, List, ℕ, inl, refl, subst}
use Rattle.std.proofs.lemmas.List.{length-take-le, take_all}
use Rattle.record_disk.specs.Disk.{content, written}
use Rattle.record_disk.specs.Memory.{MemState, IsDue}
use Rattle.record_disk.proofs.Recording.{write_more}
use Rattle.record_disk.proofs.memory.MemDiskDisk.write_at.Goals as goal

pub invariant_of-self-in-None : goal.invariant_of-self-in-None
invariant_of-self-in-None c =
    let n = length c.args.bytes.now in
    let within : c.args.at ≤ length c.self.inside.bytes.items = omega (arith, c.if-at-len.false, c.len.ensures, c.self.inside.bytes.ok.0) in
    let all : n ≡ length (take n c.args.bytes.now) = sym (length-take-le n c.args.bytes.now (omega arith)) in
    let e = c.note_write.ensures in
    ((write_more _ _ _ _ c.self.invariant.0 c.args.at n n _ _ _ _ within (omega arith) all e.calls e.put e.file).recorded, omega arith, omega arith, omega arith, omega arith, omega arith, omega arith, omega arith)

pub invariant_of-self-in-Some : goal.invariant_of-self-in-Some
invariant_of-self-in-Some c =
    let n = length c.args.bytes.now in
    let part = c.min-part.result in
    let few : part ≤ n = omega (arith, c.min-part.ensures) in
    let within : c.args.at ≤ length c.self.inside.bytes.items = omega (arith, c.if-at-len.false, c.len.ensures, c.self.inside.bytes.ok.0) in
    let all : part ≡ length (take part c.args.bytes.now) = sym (length-take-le part c.args.bytes.now few) in
    let e = c.note_write-in-Some.ensures in
    ((write_more _ _ _ _ c.self.invariant.0 c.args.at n part _ _ _ _ within few all e.calls e.put e.file).recorded, omega arith, omega arith, omega arith, omega arith, omega arith, omega arith, omega arith)

pub returns-in-None-clause-told : goal.returns-in-None-clause-told
returns-in-None-clause-told c =
    let n = length c.args.bytes.now in
    let within : c.args.at ≤ length c.self.inside.bytes.items = omega (arith, c.if-at-len.false, c.len.ensures, c.self.inside.bytes.ok.0) in
    let all : n ≡ length (take n c.args.bytes.now) = sym (length-take-le n c.args.bytes.now (omega arith)) in
    let e = c.note_write.ensures in
    (write_more _ _ _ _ c.self.invariant.0 c.args.at n n _ _ _ _ within (omega arith) all e.calls e.put e.file).may_have _ (ap (λ (v : MemState). v.trace) c.self.view_is)

pub returns-in-None-clause-done : goal.returns-in-None-clause-done
returns-in-None-clause-done c =
    let n = length c.args.bytes.now in
    let within : c.args.at ≤ length c.self.inside.bytes.items = omega (arith, c.if-at-len.false, c.len.ensures, c.self.inside.bytes.ok.0) in
    let all : n ≡ length (take n c.args.bytes.now) = sym (length-take-le n c.args.bytes.now (omega arith)) in
    let e = c.note_write.ensures in
    (write_more _ _ _ _ c.self.invariant.0 c.args.at n n _ _ _ _ within (omega arith) all e.calls e.put e.file).done _ (ap (λ (v : MemState). v.trace) c.self.view_is)
    ∙ ap (λ (l : List ℕ). written (content c.args.self.now.trace) c.args.at l) (take_all n c.args.bytes.now (omega arith))

pub returns-in-Some-clause-told : goal.returns-in-Some-clause-told
returns-in-Some-clause-told c =
    let n = length c.args.bytes.now in
    let part = c.min-part.result in
    let few : part ≤ n = omega (arith, c.min-part.ensures) in
    let within : c.args.at ≤ length c.self.inside.bytes.items = omega (arith, c.if-at-len.false, c.len.ensures, c.self.inside.bytes.ok.0) in
    let all : part ≡ length (take part c.args.bytes.now) = sym (length-take-le part c.args.bytes.now few) in
    let e = c.note_write-in-Some.ensures in
    (write_more _ _ _ _ c.self.invariant.0 c.args.at n part _ _ _ _ within few all e.calls e.put e.file).may_have _ (ap (λ (v : MemState). v.trace) c.self.view_is)

pub returns-in-Some-clause-reason : goal.returns-in-Some-clause-reason
returns-in-Some-clause-reason c = inl (subst IsDue c.self.view_is (c.in-Some.ensures.due.0 refl))
