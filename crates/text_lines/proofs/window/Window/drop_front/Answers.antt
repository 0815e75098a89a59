use Rattle.std.proofs.Common.{sym, ap, ◌∙◌, take, drop}
use Rattle.std.proofs.lemmas.List.{drop-drop}
use Rattle.text_lines.proofs.window.Window.drop_front.Goals as goal

pub returns : goal.returns
returns c =
    let window = c.self.inside in
    sym (drop-drop c.args.count window.start (take window.end window.buffer.items)) ∙ ap (drop c.args.count) c.self.view_is
