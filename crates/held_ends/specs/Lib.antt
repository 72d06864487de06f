pub mod HeldWorlds
