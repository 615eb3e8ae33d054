use Rattle.course_forms.proofs.CopyDims.{dims_small}
use Rattle.course_forms.proofs.reference.named_copy.Goals as goal

pub new-dims-requires : goal.new-dims-requires
new-dims-requires c = dims_small c.args.ns.now c.in_ok-copy_dims.field-0.items c.requires.some c.requires.few c.in_ok-copy_dims.ensures
