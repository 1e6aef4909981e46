use Rattle.std.proofs.Common.{refl}
use Rattle.sn_command.specs.Syntax.{sn_app, sn_top, seal_shape, open_shape, show_shape, replay_shape, gen_shape, serve_shape, register_shape, sign_in_shape, sync_shape, change_password_shape, put_shape, edit_shape, delete_shape, list_shape, with_accounts, with_devices, with_others}
use Rattle.sn_command.proofs.commands.command_rows.Goals as goal

pub returns : goal.returns
unfolding sn_app sn_top seal_shape open_shape show_shape replay_shape gen_shape serve_shape register_shape sign_in_shape sync_shape change_password_shape put_shape edit_shape delete_shape list_shape with_accounts with_devices with_others
returns c = refl
