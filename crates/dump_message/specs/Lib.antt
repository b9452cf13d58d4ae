pub mod Dump
