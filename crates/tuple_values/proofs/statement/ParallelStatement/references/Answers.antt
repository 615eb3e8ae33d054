use Rattle.std.proofs.Common.{◌≡◌, ◌<◌, Some, option_map, rules}
use Rattle.hpf_base.specs.ElementOrder.{product}
use Rattle.courses.specs.References.{index_courses}
use Rattle.course_forms.specs.Views.{named_of, names_of}
use Rattle.tuple_values.specs.Naming.{indices_of, left_name, names_by}
use Rattle.tuple_values.specs.Statements.{tuple_count}
use Rattle.tuple_values.specs.Views.{statement}
use Rattle.tuple_values.proofs.NamedElements.{references-are}
use Rattle.tuple_values.proofs.statement.ParallelStatement.references.Goals as goal

pub returns-in-Some-3-clause-named : goal.returns-in-Some-3-clause-named
returns-in-Some-3-clause-named c =
    let w = statement c.args.self.now in
    let ns = c.in-Some.extents.items in
    let is = indices_of c.in-Some-2.indices in
    let l = option_map named_of c.in-Some-3.names.left in
    let rs = names_of c.in-Some-3.names.reads.items in
    let b = c.in-Some-3.names.in_order in
    let same : ns ≡ w.extents = search rules in
    let some : 0 < product ns = search rules in
    let count : product ns ≡ tuple_count w = search rules in
    let known : index_courses ns w.indices ≡ Some is = search rules in
    let left : left_name w.shapes w.slots ns is w.target ≡ Some l = search rules in
    let all : names_by b w.shapes w.slots ns is w.whens w.copies w.form ≡ Some rs = search rules in
    (references-are w ns is l rs b same some count known left all).0

pub returns-in-Some-3-clause-order : goal.returns-in-Some-3-clause-order
returns-in-Some-3-clause-order c =
    let w = statement c.args.self.now in
    let ns = c.in-Some.extents.items in
    let is = indices_of c.in-Some-2.indices in
    let l = option_map named_of c.in-Some-3.names.left in
    let rs = names_of c.in-Some-3.names.reads.items in
    let b = c.in-Some-3.names.in_order in
    let same : ns ≡ w.extents = search rules in
    let some : 0 < product ns = search rules in
    let count : product ns ≡ tuple_count w = search rules in
    let known : index_courses ns w.indices ≡ Some is = search rules in
    let left : left_name w.shapes w.slots ns is w.target ≡ Some l = search rules in
    let all : names_by b w.shapes w.slots ns is w.whens w.copies w.form ≡ Some rs = search rules in
    (references-are w ns is l rs b same some count known left all).1
