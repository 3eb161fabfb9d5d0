mod AtDesks
mod Sent
mod Taken
mod Told
mod Turned
