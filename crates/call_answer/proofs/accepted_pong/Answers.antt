-- `call_answer::accepted_pong` meets its contract. Assumes nothing.
use mathlib.Core.Path.{◌≡◌, sym, ◌∙◌}
use Prim.Native.Nat.{◌≤◌, ◌<◌}
use lib.ListN.{length}
use native.Mathlib.Omega.{arith}
use borrow.Author.Rules.{rules}
use borrow.Author.Tests.{ltb-false}
use Rattle.bucket.specs.Steps.{contents}
use Rattle.bucket.proofs.Laws.{length_mapped, length-listed}
use Rattle.call_answer.proofs.Pong.{was-entry, range-of, range-full, took-entry, waits}
use Rattle.call_answer.proofs.accepted_pong.Goals as goal

pub returns-then-has_entry : goal.returns-then-has_entry
returns-then-has_entry c = λ key h.
    let args = c.args in
    was-entry key args.p (contents args.b)
    (sym (c.has_entry.ensures ∙ h.has_entry) ∙ c.if-has_entry.true) c.plain.ensures

pub returns-then-range_full : goal.returns-then-range_full
returns-then-range_full c = λ key h.
    let at_test = c in
    let args = at_test.args in
    let m = contents args.b in
    let none = sym (at_test.has_entry.ensures ∙ h.has_entry) ∙ at_test.if-has_entry.false in
    range-full key args.p m none (range-of key args.p m args.l h none at_test.range_full.ensures ∙ c.if-range_full.true) c.plain-then-range_full.ensures

pub returns-then-free_entry : goal.returns-then-free_entry
returns-then-free_entry c = λ key h.
    let at_test = c in
    let args = at_test.args in
    let m = contents args.b in
    let none = sym (at_test.has_entry.ensures ∙ h.has_entry) ∙ at_test.if-has_entry.false in
    took-entry key args.p m none (range-of key args.p m args.l h none at_test.range_full.ensures ∙ c.if-range_full.false)
    (sym c.free_entry.ensures ∙ c.if-free_entry.true) c.plain-then-free_entry.ensures

pub head-requires : goal.head-requires
head-requires c =
    let items_size : length c.args.b.entries.items ≡ 16 = search (rules, length_mapped) in
    let start = c in
    let b = start.args.b in
    let size = length-listed b.entries items_size start.requires.entries in
    let full : 16 ≤ length (contents b).entries = ltb-false _ _ (sym c.free_entry.ensures ∙ c.if-free_entry.false) in
    let some : 0 < b.entries.len = omega arith in
    (some, start.requires.entries)

pub returns : goal.returns
returns c = λ key h.
    let at_test = c in
    let args = at_test.args in
    let m = contents args.b in
    let none = sym (at_test.has_entry.ensures ∙ h.has_entry) ∙ at_test.if-has_entry.false in
    waits key args.p m c.head.result none
    (range-of key args.p m args.l h none at_test.range_full.ensures ∙ c.if-range_full.false)
    (sym c.free_entry.ensures ∙ c.if-free_entry.false) c.head.ensures c.waiting.ensures
