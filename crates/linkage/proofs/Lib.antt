mod Rooms
mod Tables
mod Plays
