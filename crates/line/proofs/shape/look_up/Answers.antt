use Rattle.std.proofs.Common.{◌≡◌, ◌∙◌, rules, None, Some, Err}
use Rattle.line.specs.declared.shape.Fault.TheVariants as fault
use Rattle.line.specs.ReadLaws.{command_bad, command_unknown, command_known}
use Rattle.line.proofs.shape.look_up.Goals as goal

pub returns-in_err-param : goal.returns-in_err-param
returns-in_err-param c =
    let err : c.from_residual.result ≡ Err fault.Malformed = search rules in
    let none : c.args.x ≡ None = search rules in
    err ∙ command_bad c.args.n c.args.x none

pub returns-in_err-name : goal.returns-in_err-name
returns-in_err-name c =
    let err : c.from_residual-in_err-name.result ≡ Err fault.Unknown = search rules in
    let is : c.args.x ≡ Some c.in_ok-param.param = search rules in
    let none : c.called_by.result ≡ None = search rules in
    err ∙ command_unknown c.args.n c.args.x c.in_ok-param.param c.called_by.result is c.called_by.ensures none

pub returns : goal.returns
returns c =
    let is : c.args.x ≡ Some c.in_ok-param.param = search rules in
    let name : c.called_by.result ≡ Some c.in_ok-name.name = search rules in
    command_known c.args.n c.args.x c.in_ok-param.param c.called_by.result is c.called_by.ensures c.in_ok-name.name name
