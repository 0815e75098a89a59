-- The commands, as clap is told of them.
use Rattle.std.specs.Prelude.{true, List, [], ◌∷◌, Some, codes}
use Rattle.clap.specs.Words.{App, Rule, Shape, Text, new_rule, with_subcommand}
use Rattle.clap.specs.Simple.{new_shape}
use Rattle.clap.specs.declared.builder.action.ArgAction.TheVariants.{Set}

-- a place for one word
abbrev pub place : Text → Rule
place name = record (new_rule name) { required = true; action = Some Set }

-- a command with these places
abbrev pub command : Text → List Rule → Shape
command name places = record (new_shape name) { rules = places }

-- who is asked about
abbrev pub check_places : List Rule
check_places =
    place (codes "CLIENT") ∷ place (codes "SESSION") ∷ place (codes "USER") ∷ place (codes "PRIVILEGE") ∷ []

-- the program itself: one of its commands is wanted, and no help flag and no help command is added to them
abbrev pub top : Shape
top = record (new_shape (codes "privilege")) {
  no_binary_name = true;
  disable_help_flag = true;
  disable_help_subcommand = true;
  arg_required_else_help = true;
  subcommand_required = true;
}

-- those over the folder or the rules alone
abbrev pub folder_commands : List Shape
folder_commands =
    command (codes "local") []
    ∷ command (codes "smack-load") []
    ∷ command (codes "smack-access")
    (place (codes "SUBJECT") ∷ place (codes "OBJECT") ∷ place (codes "MODES") ∷ [])
    ∷ []

-- those that serve
abbrev pub service_commands : List Shape
service_commands =
    command (codes "serve") (place (codes "WORKERS") ∷ [])
    ∷ command (codes "watch") (place (codes "WORKERS") ∷ [])
    ∷ []

-- those that ask the service
abbrev pub client_commands : List Shape
client_commands = command (codes "check") check_places ∷ command (codes "simple") check_places ∷ []

-- an administrator's, an agent's and that of the generated script
abbrev pub script_commands : List Shape
script_commands =
    command (codes "admin") []
    ∷ command (codes "agent") (place (codes "KIND") ∷ place (codes "ANSWER") ∷ [])
    ∷ command (codes "sample") (place (codes "COUNT") ∷ [])
    ∷ []

-- a program with these commands behind those that it has
abbrev pub with_all : App → List Shape → App
with_all above [] = above
with_all above (shape ∷ shapes) = with_all (with_subcommand above shape) shapes

abbrev pub program : App
program =
    let folder = with_all (record { top = top; subs = [] }) folder_commands in
    let service = with_all folder service_commands in
    with_all (with_all service client_commands) script_commands
